-- What is known of an image that passed refusals 1 to 11.
use Prim.Native.Nat.{ℕ, ◌+◌, ◌-◌, ◌*◌, ◌≤◌, ◌<◌}
use mathlib.Core.Path.{◌≡◌, refl, sym, ap, ◌∙◌}
use mathlib.Core.List.{List}
use lib.ListN.{length}
use native.Mathlib.Omega.{arith}
use Rattle.header.specs.declared.Header.{Header}
use Rattle.std.specs.Prelude.{Ok}
use Rattle.header.specs.Header.{page_limit, size_of, usable_of, pages_of, header_in, Within}
use Rattle.header.specs.Told.{told}
use Rattle.header.proofs.Laws.{Headed, headed, told-is, told-passes, headed-numbered, page-within}
use Rattle.image.specs.Image.{file_of}
use Rattle.image.specs.Ready.{Opened, PageAt}

-- what the check answered
pub opened_of : {b : List ℕ} (h : Header) → told (Ok h) ≡ header_in b → Opened b h
opened_of {b} h e = record { is = told-is b h e; passes = told-passes b h e }

pub opened-headed : {b : List ℕ} {h : Header} → Opened b h → Headed b h.size h.usable h.pages
opened-headed {b} {h} o = rw o.is (headed b o.passes)

pub record Shape (b : List ℕ) (h : Header) : Type 0 where
  pub size_is : h.size ≡ size_of b
  pub usable_is : h.usable ≡ usable_of b
  pub pages-is : h.pages ≡ pages_of b
  pub N-is : (file_of b).N ≡ h.pages
  pub least : 512 ≤ h.size
  pub most : h.size ≤ 65536
  pub used : 480 ≤ h.usable
  pub inside : h.usable ≤ h.size
  pub some : 1 ≤ h.pages
  pub few : h.pages ≤ page_limit
  pub within : h.pages * h.size ≤ length b
  pub long : 512 ≤ length b

pub shape : {b : List ℕ} {h : Header} → Opened b h → Shape b h
unfolding file_of
shape {b} {h} o =
    let d = opened-headed o in
    let g = headed-numbered d in record {
      size_is = d.size_is;
      usable_is = d.usable_is;
      pages-is = d.pages-is;
      N-is = sym d.pages-is;
      least = g.least;
      most = g.most;
      used = g.used;
      inside = g.inside;
      some = g.some;
      few = g.few;
      within = g.within;
      long = g.long;
    }

-- a page of it, of 1 to N, lies within it
pub at-within : {b : List ℕ} {h : Header} {p : ℕ} → PageAt b h p → Within b h.size p
at-within {b} {h} {p} a = page-within p (headed-numbered (opened-headed a.opened)) a.low a.high
