use native.Mathlib.Omega.{arith}
use Rattle.page.proofs.Free.{block-past, block-unfit}
use Rattle.page.proofs.OpenPage.read_freeblock.Goals as goal

pub returns-then-at-self-clause-unfit : goal.returns-then-at-self-clause-unfit
returns-then-at-self-clause-unfit c = block-past _ _ _ _ (omega arith)

pub returns-then-not-fits-clause-unfit : goal.returns-then-not-fits-clause-unfit
returns-then-not-fits-clause-unfit c =
    block-unfit _ _ _ _ _ _ c.be16-next.ensures.0 c.be16-size.ensures.0 (c.fits.ensures.no c.if-not-fits.true)

pub returns-clause-read : goal.returns-clause-read
returns-clause-read c =
    record {
      head = omega (arith, c.if-at-self.false);
      next-is = c.be16-next.ensures.0;
      size-is = c.be16-size.ensures.0;
      fine = c.fits.ensures.yes c.if-not-fits.false;
    }
