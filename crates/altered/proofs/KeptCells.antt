-- Two images that agree on the bytes that a good dealing of the first has read: their files have the same cells where it looks, and verdicts are the same.
use Prim.Native.Nat.{ℕ, ◌<◌}
use mathlib.Core.Path.{◌≡◌, sym, ap, ◌∙◌}
use mathlib.Core.List.{List}
use Rattle.header.specs.Header.{usable_of}
use Rattle.page.specs.Fault.{sound_fault}
use Rattle.dealing.specs.File.{File, Page}
use Rattle.dealing.specs.Good.{Dealing, TreePage}
use Rattle.image.specs.Pages.{page_in, head_of, cell_in}
use Rattle.image.specs.Payload.{payload_of}
use Rattle.image.specs.Image.{file_of}
use Rattle.image.specs.Good.{GoodDealing, PayloadCell}
use Rattle.verdict.specs.Verdict.{verdict_is}
use Rattle.altered.specs.Answers.{SameBytes}
use Rattle.altered.proofs.SameHeader as H
use Rattle.altered.proofs.SameCells.{SameCells}
use Rattle.altered.proofs.Kept as K
use Rattle.altered.proofs.Kept.{Keeps, KeepsPages, keeps-pages, cell-all, outside}
use Rattle.altered.proofs.Answers.{answers-same}

module _ (b c : List ℕ) (d : Dealing) (g : GoodDealing b d) (k : Keeps b c d) where
  abbrev f : File
  f = file_of b

  pages : KeepsPages b c d
  pages = keeps-pages b c d g k

  module _ (q : ℕ) (h : Page f q) (t : TreePage d q) where
    pub sound-same : sound_fault (page_in c q) (usable_of c) (head_of q) ≡ sound_fault (page_in b q) (usable_of b) (head_of q)
    sound-same =
        ap (λ u. sound_fault (page_in c q) u (head_of q)) (H.usable-kept b c k.long k.header)
        ∙ (pages.page q h t).sound ∙ sym (K.sound b c d g k.long k.header q h t)

    module _ (j : ℕ) (l : j < f.count q) where
      pub cell-in-same : cell_in c q j ≡ cell_in b q j
      cell-in-same = K.cell-in-same b c d g k.long k.header q h t (outside b c d g k q h t) j l

      pub payload_same : payload_of c q j ≡ payload_of b q j
      payload_same = K.payload_same b c d g pages q h t j l (cell-all b c d g k q j h t l)

      pub cell_same : (file_of c).cell q j ≡ f.cell q j
      cell_same = K.cell_same b c d g pages q h t j l (cell-all b c d g k q j h t l)

      pub column4-same : (file_of c).column4 q j ≡ f.column4 q j
      column4-same = K.column4-same b c d g pages q h t j l (cell-all b c d g k q j h t l)

  pub files-same : SameCells f (file_of c) d
  files-same =
      let s = K.files-same b c d g pages in
      record {
        N = s.N;
        free_head = s.free_head;
        free_total = s.free_total;
        trunk_room = s.trunk_room;
        vacuum = s.vacuum;
        fixed = s.fixed;
        type = s.type;
        broken = s.broken;
        count = s.count;
        right = s.right;
        cell = λ q j h t l. cell_same q h t j l;
        column4 = λ q j h t l. column4-same q h t j l;
        next = s.next;
        trunk_next = s.trunk_next;
        trunk_count = s.trunk_count;
        trunk_leaf = s.trunk_leaf;
        entry_type = s.entry_type;
        entry_number = s.entry_number;
      }

  pub verdict-same : (ordered : List ℕ) (kinds namers steps : ℕ) → verdict_is c ordered kinds namers steps ≡ verdict_is b ordered kinds namers steps
  verdict-same = (answers-same b c d g k).verdict

  pub bytes_same : (page cell : ℕ) → PayloadCell b d page cell → SameBytes b c page cell
  bytes_same = (answers-same b c d g k).cell
