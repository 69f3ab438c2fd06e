use native.Mathlib.Omega.{arith}
use mathlib.Core.Path.{refl}
use Rattle.page.proofs.Ways.{way-array, way-fragments, way-free, way-sum, way-falls, way-inside, way-gaps, way-sound}
use Rattle.page.proofs.OpenPage.rest.Goals as goal

pub returns-then-self-clause-refused : goal.returns-then-self-clause-refused
returns-then-self-clause-refused c = way-array _ _ _ _ _ _ c.args.self.now.opened _ c.args.self.now.count _ _ _ c.requires.2 c.if-self.true

pub returns-then-fragments-gt60-clause-refused : goal.returns-then-fragments-gt60-clause-refused
returns-then-fragments-gt60-clause-refused c =
    way-fragments _ _ _ _ _ _ c.args.self.now.opened _ c.args.self.now.count _ _ _ c.requires.2 _ c.from-fragments.ensures c.if-fragments-gt60.true

pub returns-in_default-clause-refused : goal.returns-in_default-clause-refused
returns-in_default-clause-refused c =
    way-free _ _ _ _ _ _ c.args.self.now.opened _ c.args.self.now.count _ _ _ c.requires.2
    _ c.from-fragments.ensures _ c.be16-block.ensures.0 _ _ _ c.in_default.ensures.unfit refl

pub returns-then-held-free-clause-refused : goal.returns-then-held-free-clause-refused
returns-then-held-free-clause-refused c =
    way-sum _ _ _ _ _ _ c.args.self.now.opened _ c.args.self.now.count _ _ _ c.requires.2
    _ c.from-fragments.ensures _ c.be16-block.ensures.0 _ _ _ c.in-Some.ensures.noted.0 refl c.requires.0 c.if-held-free.true

pub returns-then-free-eq0-clause-sound : goal.returns-then-free-eq0-clause-sound
returns-then-free-eq0-clause-sound c =
    way-falls _ _ _ _ _ _ c.args.self.now.opened _ c.args.self.now.count _ _ _ c.requires.2
    _ c.from-fragments.ensures _ c.be16-block.ensures.0 _ _ _ c.in-Some.ensures.noted.0 refl c.requires.0
    c.if-self.false c.if-fragments-gt60.false c.if-held-free.false c.if-held-ne0.true c.if-free-eq0.true

pub count_gaps-requires : goal.count_gaps-requires
count_gaps-requires c = (
  c.requires.0,
  omega (arith, c.args.self.now.opened.least),
  c.args.self.now.opened.most,
  omega (arith, c.requires.1),
  way-inside _ _ _ _ _ _ c.args.self.now.opened _ c.args.self.now.count _ _ _ c.requires.2
      _ c.from-fragments.ensures _ c.be16-block.ensures.0 _ _ _ c.in-Some.ensures.noted.0 refl c.requires.0,
)

pub returns-then-count_gaps-fragments-clause-refused : goal.returns-then-count_gaps-fragments-clause-refused
returns-then-count_gaps-fragments-clause-refused c =
    way-gaps _ _ _ _ _ _ c.args.self.now.opened _ c.args.self.now.count _ _ _ c.requires.2
    _ c.from-fragments.ensures _ c.be16-block.ensures.0 _ _ _ c.in-Some.ensures.noted.0 refl c.requires.0
    _ c.count_gaps.ensures c.if-count_gaps-fragments.true

pub returns-clause-sound : goal.returns-clause-sound
returns-clause-sound c =
    way-sound _ _ _ _ _ _ c.args.self.now.opened _ c.args.self.now.count _ _ _ c.requires.2
    _ c.from-fragments.ensures _ c.be16-block.ensures.0 _ _ _ c.in-Some.ensures.noted.0 refl c.requires.0
    c.if-self.false c.if-fragments-gt60.false c.if-held-free.false
    _ c.count_gaps.ensures c.if-count_gaps-fragments.false
