-- What is shown of a recovered file, by logs that have nothing to recover and by logs that say what the old one said.
use Prim.Native.Nat.{ℕ, ◌-◌, ◌*◌, ◌≤◌}
use mathlib.Core.Path.{◌≡◌, refl, sym, ap, ◌∙◌}
use mathlib.Core.List.{List}
use native.Mathlib.Nat.{mul-le-mul_right}
use native.Mathlib.Omega.{arith}
use lib.ListN.{length}
use Rattle.number.specs.Bytes.{part}
use Rattle.header.specs.Header.{pages_in}
use Rattle.wal.specs.State.{nothing, state_of}
use Rattle.wal.specs.View.{pair_state, whole_of, refusal_in}
use Rattle.wal.specs.Promises.{Shown}
use Rattle.wal.specs.State.{State}
use Rattle.wal.proofs.ViewLaws.{state-bounds}
use Rattle.wal.proofs.AgreeLaws.{Succeeds, succeeds, whole-page, view-page, again-shown}
use Rattle.wal.proofs.ShownLaws.{Agree, shown_by}
use Rattle.appending.specs.Promises.{ShowsImage}
use Rattle.appending.proofs.CheckpointLaws.{file-length, file-state, file-whole, file-part}

pub alone-shows : (log image other : List ℕ) (room : ℕ) → refusal_in (pair_state log image) log image room ≡ 0 → state_of other ≡ nothing
    → (pages_in (whole_of log image)).refusal ≡ 0 → (pages_in (whole_of log image)).size ≡ (pair_state log image).size
    → ShowsImage other (whole_of log image) (pair_state log image).size (pair_state log image).pages
alone-shows log image other room done none headed sized =
    let e = file-state log image room done other none headed sized in
    record {
      pages = ap (λ (s : State). s.pages) e;
      page_size = ap (λ (s : State). s.size) e;
      whole = file-whole log image room done other none headed sized;
      view = λ p low high. rw (file-part log image room done other none headed sized p low high) refl;
    }

pair_same : (a b image : List ℕ) → state_of a ≡ state_of b → pair_state a image ≡ pair_state b image
unfolding pair_state
pair_same a b image e = rw e refl

pub same-shows : (log image other : List ℕ) (room : ℕ) → refusal_in (pair_state log image) log image room ≡ 0 → state_of other ≡ state_of log
    → ((k m : ℕ) → Agree k m other log)
    → ShowsImage other (whole_of log image) (pair_state log image).size (pair_state log image).pages
same-shows log image other room done same agree =
    let file : List ℕ = whole_of log image in
    let again = again-shown log image room done in
    let s : State = pair_state log file in
    let e : pair_state other file ≡ s = pair_same other log file same in
    let shown : Shown other file s log = shown_by other file s log e (agree s.size s.frames) in
    let ok : Succeeds s log file room = succeeds s log file room again.success in
    let bounds = state-bounds log file ok.passed in
    let n-is : s.pages ≡ (pair_state log image).pages = ap (λ (x : State). x.pages) again.state in
    let size_is : s.size ≡ (pair_state log image).size = ap (λ (x : State). x.size) again.state in
    record {
      pages = ap (λ (x : State). x.pages) e ∙ n-is;
      page_size = ap (λ (x : State). x.size) e ∙ size_is;
      whole = shown.whole ∙ again.whole;
      view = λ p low high.
          let high' : p ≤ s.pages = omega (arith, n-is) in
          let there : p * s.size ≤ length file = rw (file-length log image room done, size_is) (mul-le-mul_right (pair_state log image).size high) in
          shown.view p
          ∙ view-page s log file room ok bounds p low high' (λ q. there)
          ∙ sym (whole-page s log file room ok bounds p low high')
          ∙ ap (λ (x : List ℕ). part x ((p - 1) * s.size) s.size) again.whole
          ∙ ap (λ (k : ℕ). part file ((p - 1) * k) k) size_is;
    }
