-- Laws of a payload's bytes as they are copied, page by page.
-- Assumes nothing.
use Prim.Native.Nat.{ℕ, zero, suc, ◌+◌, ◌-◌, ◌*◌, ◌/◌, ◌<◌, ◌≤◌, min}
use mathlib.Core.Path.{◌≡◌, refl, sym, ap, ◌∙◌, subst}
use mathlib.Core.Logic.{⊎_elim, ◌≢◌}
use mathlib.Core.List.{List, ◌++◌, append_assoc, append-nil, []}
use lib.ListN.{length, take, drop, take-append-drop, length-append, length-take, length-drop}
use lib.Seq.{take-append-add, take-append-le, take-nil, length-take-le, take_all, take-take, take_at, drop_at, drop-drop, drop-length}
use native.Mathlib.Nat.{mul-add-div_right, div-eq_of_lt}
use native.Mathlib.Omega.{arith}
use borrow.Rule.Slice.PartMut.{put_mid, post_of, Post-is}
use Rattle.number.specs.Bytes.{part}
use Rattle.number.proofs.Cases.{lt-or-ge}
use Rattle.header.specs.declared.Header.{Header}
use Rattle.header.specs.Header.{usable_of, page_of}
use Rattle.header.proofs.Laws.{page-length}
use Rattle.cell.specs.declared.Cell.{Cell}
use Rattle.cell.specs.Split.{chain_length}
use Rattle.cell.proofs.SplitLaws.{chain-none, chain-some}
use Rattle.paging.specs.Pages.{over}
use Rattle.dealing.specs.File.{Page}
use Rattle.dealing.specs.Lookup.{whole, follow, follow_cell}
use Rattle.dealing.specs.Good.{chain_pages}
use Rattle.dealing.proofs.Passed.{whole-more}
use Rattle.dealing.proofs.LookupLaws.{follow-none, follow-some}
use Rattle.image.specs.Pages.{page_in}
use Rattle.image.specs.Payload.{next_in, chunk_in, chain_bytes, cell_bytes, payload_of, chunks_of}
use Rattle.image.specs.Pages.{cell_in}
use Rattle.image.specs.Image.{file_of}
use Rattle.image.specs.Ready.{Opened, PageAt}
use Rattle.image.proofs.Shape.{shape, at-within}
use Rattle.image.proofs.Fields.{next_field}
use Rattle.payload.specs.Copy.{rest_bytes, Chained, Fetchable}

-- what is laid after what was laid
pub over-join : (out a s : List ℕ) (at k : ℕ) → at + length a ≤ length out → k ≡ at + length a → over (over out at a) k s ≡ over out at (a ++ s)
over-join out a s at k h e =
    let t = take at out in
    let d = drop (at + length a) out in
    let l : length (t ++ a) ≡ k = length-append t a ∙ omega (arith, length-take-le at out (omega arith)) in
    let first : take k (t ++ (a ++ d)) ≡ t ++ a = ap (take k) (sym (append_assoc t a d)) ∙ take_at (t ++ a) d k l in
    let ends : at + length a + length s ≡ at + length (a ++ s) = omega (arith, length-append a s) in
    let last : drop (k + length s) (t ++ (a ++ d)) ≡ drop (at + length (a ++ s)) out =
    sym (drop-drop (length s) k (t ++ (a ++ d))) ∙ ap (λ l. drop (length s) (drop k l)) (sym (append_assoc t a d))
    ∙ ap (drop (length s)) (drop_at (t ++ a) d k l)
    ∙ drop-drop (length s) (at + length a) out ∙ ap (λ n. drop n out) ends in
    rw (first, last) (simp append_assoc)

pub over_none : (out : List ℕ) (at : ℕ) → over out at [] ≡ out
over_none out at = let z : at + 0 ≡ at = omega arith in rw z (take-append-drop at out)

-- the rest of a payload has one page fewer once a page of it is read
pub chain-step : (u rest : ℕ) → 480 ≤ u → 0 < rest → chain_length u rest ≡ suc (chain_length u (rest - (u - 4)))
unfolding chain_length
chain-step u rest h k =
    let a : rest + (u - 5) ≡ 1 * (u - 4) + (rest - 1) = omega arith in
    let d : (1 * (u - 4) + (rest - 1)) / (u - 4) ≡ 1 + (rest - 1) / (u - 4) = mul-add-div_right {m = u - 4} (omega arith) 1 (rest - 1) in
    let e : (rest - 1) / (u - 4) ≡ (rest - (u - 4) + (u - 5)) / (u - 4) =
    ⊎_elim
    (λ (l : u - 4 < rest). let q : rest - 1 ≡ rest - (u - 4) + (u - 5) = omega arith in ap (λ n. n / (u - 4)) q)
    (λ (g : rest ≤ u - 4). div-eq_of_lt {n = rest - 1} {m = u - 4} (omega arith) ∙ sym (div-eq_of_lt {n = rest - (u - 4) + (u - 5)} {m = u - 4} (omega arith)))
    (lt-or-ge (u - 4) rest) in
    ap (λ n. n / (u - 4)) a ∙ omega (arith, d, e)

module _ (b : List ℕ) (rest t : ℕ) (used : 480 ≤ usable_of b) (some : 0 < rest) where
  pub rest-step : rest_bytes b rest t ≡ take rest (chunk_in b t) ++ rest_bytes b (rest - (usable_of b - 4)) (next_in b t)
  unfolding chain_bytes
  rest-step = ap (λ n. chain_bytes b n rest t) (chain-step (usable_of b) rest used some)

  pub chained_more : Chained b rest t → Page (file_of b) t × Chained b (rest - (usable_of b - 4)) (next_in b t)
  chained_more (holder, e) =
      let f = file_of b in
      let n = chain_length (usable_of b) rest in
      let m = chain_length (usable_of b) (rest - (usable_of b - 4)) in
      let s : n ≡ suc m = chain-step (usable_of b) rest used some in
      let nz : n ≢ 0 = λ z. omega arith in
      let w = whole-more f holder n t nz (sym (follow-some f holder n t nz) ∙ e) in
      let one : n - 1 ≡ m = omega arith in
      (w.0, (t, subst (λ q. follow_cell f t m q ≡ whole) (next_field b t) (cell m (subst (λ k. follow f t k (f.next t) ≡ whole) one w.1))))
    where
      cell : (m : ℕ) → follow (file_of b) t m ((file_of b).next t) ≡ whole → follow_cell (file_of b) t m ((file_of b).next t) ≡ whole
      cell zero e = follow-none (file_of b) t 0 ((file_of b).next t) refl
      cell (suc m) e = follow-some (file_of b) t (suc m) ((file_of b).next t) (λ z. omega arith) ∙ e

-- the bytes of a chain's page that belong to the rest
pub chunk_part : (page : List ℕ) (room rest n : ℕ) → n ≡ min room rest → take rest (part page 4 room) ≡ part page 4 n
chunk_part page room rest n e =
    ⊎_elim
    (λ (l : room < rest). let q : n ≡ room = omega arith in
    take_all rest (part page 4 room) (omega (arith, length-take room (drop 4 page))) ∙ ap (λ k. part page 4 k) (sym q))
    (λ (g : rest ≤ room). let q : n ≡ rest = omega arith in take-take rest room (drop 4 page) g ∙ ap (λ k. part page 4 k) (sym q))
    (lt-or-ge room rest)

module _ (b : List ℕ) (h : Header) (o : Opened b h) where
  pub file-page : (p : ℕ) → Page (file_of b) p → PageAt b h p
  file-page p w = let s = shape o in record { opened = o; low = w.0; high = omega (arith, s.N-is) }

  pub page-in-length : (p : ℕ) → PageAt b h p → length (page_in b p) ≡ h.size
  page-in-length p a = let s = shape o in rw (← s.size_is) (page-length b h.size p (at-within a))

  pub part_length : (p from n : ℕ) → PageAt b h p → from + n ≤ h.usable → length (part (page_in b p) from n) ≡ n
  part_length p from n a l = let s = shape o in let e = page-in-length p a in simp (length-take, length-drop) (omega arith)

  used-is : 480 ≤ usable_of b
  used-is = let s = shape o in omega arith

  chain-bytes-length : (n rest t : ℕ) → n ≡ chain_length (usable_of b) rest → Chained b rest t → length (chain_bytes b n rest t) ≡ rest
  unfolding chain_bytes
  chain-bytes-length zero rest t e w =
      ⊎_elim (λ (l : 0 < rest). absurd (omega (arith, chain-some (usable_of b) rest used-is l))) (λ (g : rest ≤ 0). omega arith) (lt-or-ge 0 rest)
  chain-bytes-length (suc n) rest t e w =
      ⊎_elim
      (λ (l : 0 < rest).
      let s = shape o in
      let m = chained_more b rest t used-is l w in
      let step = chain-step (usable_of b) rest used-is l in
      let r = chain-bytes-length n (rest - (usable_of b - 4)) (next_in b t) (omega arith) m.1 in
      let k : length (chunk_in b t) ≡ usable_of b - 4 = part_length t 4 (usable_of b - 4) (file-page t m.0) (omega arith) in
      length-append (take rest (chunk_in b t)) (chain_bytes b n (rest - (usable_of b - 4)) (next_in b t)) ∙ omega (arith, length-take rest (chunk_in b t)))
      (λ (g : rest ≤ 0). let z : rest ≡ 0 = omega arith in absurd (omega (arith, ap (chain_length (usable_of b)) z, chain-none (usable_of b) used-is)))
      (lt-or-ge 0 rest)

  pub rest-length : (rest t : ℕ) → Chained b rest t → length (rest_bytes b rest t) ≡ rest
  rest-length rest t w = chain-bytes-length (chain_length (usable_of b) rest) rest t refl w

-- the rest is what the chain's pages hold, cut where the payload ends
pub take-append : (n : ℕ) (xs ys : List ℕ) → take n (xs ++ ys) ≡ take n xs ++ take (n - length xs) ys
take-append n xs ys =
    ⊎_elim
    (λ (l : n < length xs). let z : n - length xs ≡ 0 = omega arith in take-append-le n xs ys (omega arith) ∙ sym (rw z (append-nil (take n xs))))
    (λ (g : length xs ≤ n).
    let e : n ≡ length xs + (n - length xs) = omega arith in
    ap (λ k. take k (xs ++ ys)) e ∙ take-append-add xs ys (n - length xs) ∙ ap (λ x. x ++ take (n - length xs) ys) (sym (take_all n xs g)))
    (lt-or-ge n (length xs))

module _ (b : List ℕ) (h : Header) (o : Opened b h) where
  chain-bytes-chunks : (n rest t : ℕ) → n ≡ chain_length (usable_of b) rest → Chained b rest t
      → chain_bytes b n rest t ≡ take rest (chunks_of b (chain_pages (file_of b) n t))
  unfolding chain_bytes chain_pages chunks_of
  chain-bytes-chunks zero rest t e w = sym (take-nil rest)
  chain-bytes-chunks (suc n) rest t e w =
      ⊎_elim
      (λ (l : 0 < rest).
      let s = shape o in
      let used = used-is b h o in
      let m = chained_more b rest t used l w in
      let step = chain-step (usable_of b) rest used l in
      let r = chain-bytes-chunks n (rest - (usable_of b - 4)) (next_in b t) (omega arith) m.1 in
      let k : length (chunk_in b t) ≡ usable_of b - 4 = part_length b h o t 4 (usable_of b - 4) (file-page b h o t m.0) (omega arith) in
      ap (λ x. take rest (chunk_in b t) ++ x) r
      ∙ ap (λ q. take rest (chunk_in b t) ++ take (rest - (usable_of b - 4)) (chunks_of b (chain_pages (file_of b) n q))) (sym (next_field b t))
      ∙ ap (λ k. take rest (chunk_in b t) ++ take (rest - k) (chunks_of b (chain_pages (file_of b) n ((file_of b).next t)))) (sym k)
      ∙ sym (take-append rest (chunk_in b t) (chunks_of b (chain_pages (file_of b) n ((file_of b).next t)))))
      (λ (g : rest ≤ 0). let z : rest ≡ 0 = omega arith in absurd (omega (arith, ap (chain_length (usable_of b)) z, chain-none (usable_of b) (used-is b h o))))
      (lt-or-ge 0 rest)

  pub rest-chunks : (rest t : ℕ) → Chained b rest t → rest_bytes b rest t ≡ take rest (chunks_of b (chain_pages (file_of b) (chain_length (usable_of b) rest) t))
  rest-chunks rest t w = chain-bytes-chunks (chain_length (usable_of b) rest) rest t refl w

-- one page of the rest copied, to out[at..end]
module _ (b : List ℕ) (h : Header) (o : Opened b h) (at end t n : ℕ) (some : at < end) (w : Chained b (end - at) t)
    (is : n ≡ min (h.usable - 4) (end - at)) where
  more : Page (file_of b) t × Chained b (end - at - (usable_of b - 4)) (next_in b t)
  more = chained_more b (end - at) t (used-is b h o) (omega arith) w

  pub first-page : PageAt b h t
  first-page = file-page b h o t more.0

  pub first-within : 4 + n ≤ h.usable
  first-within = let s = shape o in omega arith

  left_is : end - at - (usable_of b - 4) ≡ end - (at + n)
  left_is = let s = shape o in omega arith

  pub more-chained : (t' : ℕ) → t' ≡ next_in b t → Chained b (end - (at + n)) t'
  more-chained t' e = rw (e, ← left_is) more.1

  pub page-copied : (out out' : List ℕ) (t' : ℕ) → end ≤ length out → t' ≡ next_in b t → out' ≡ over out at (part (page_in b t) 4 n)
      → over out' (at + n) (rest_bytes b (end - (at + n)) t') ≡ over out at (rest_bytes b (end - at) t)
  page-copied out out' t' fits e l =
      let s = shape o in
      let a = part (page_in b t) 4 n in
      let rest = rest_bytes b (end - (at + n)) t' in
      let len : length a ≡ n = part_length b h o t 4 n first-page first-within in
      let piece : take (end - at) (chunk_in b t) ≡ a =
      chunk_part (page_in b t) (usable_of b - 4) (end - at) n (is ∙ ap (λ u. min (u - 4) (end - at)) s.usable_is) in
      let whole_is : rest_bytes b (end - at) t ≡ a ++ rest =
      rest-step b (end - at) t (used-is b h o) (omega arith) ∙ ap (λ x. x ++ rest_bytes b (end - at - (usable_of b - 4)) (next_in b t)) piece
      ∙ ap (λ r. a ++ rest_bytes b r (next_in b t)) left_is ∙ ap (λ q. a ++ rest_bytes b (end - (at + n)) q) (sym e) in
      ap (λ x. over x (at + n) rest) l ∙ over-join out a rest at (at + n) (omega arith) (omega arith) ∙ ap (over out at) (sym whole_is)

-- a part of a page, laid
pub part-laid : (b : List ℕ) (h : Header) (o : Opened b h) (p from n at : ℕ) (out out' page : List ℕ) → page ≡ page_of b h.size p
    → out' ≡ over out at (take (from + n - from) (drop from page)) → out' ≡ over out at (part (page_in b p) from n)
part-laid b h o p from n at out out' page e l =
    let s = shape o in
    let z : from + n - from ≡ n = omega arith in
    l ∙ ap (λ k. over out at (part page from k)) z ∙ ap (λ x. over out at (part x from n)) (e ∙ ap (λ z. page_of b z p) s.size_is)

-- nothing is left
pub rest-none : (b : List ℕ) (rest t : ℕ) → 480 ≤ usable_of b → rest ≡ 0 → rest_bytes b rest t ≡ []
unfolding chain_bytes
rest-none b rest t used z = rw (z, chain-none (usable_of b) used)

-- the payload of a cell that can be copied
module _ (b : List ℕ) (h : Header) (p : ℕ) (c : Cell) (room : ℕ) (w : Fetchable b h p c room) where
  pub cell-chained : Chained b (c.payload - c.local) c.first
  cell-chained = (p, w.chain)

  local-length : length (part (page_in b p) c.start c.local) ≡ c.local
  local-length = part_length b h w.at.opened p c.start c.local w.at w.within

  pub cell-length : length (cell_bytes b p c) ≡ c.payload
  cell-length =
      length-append (part (page_in b p) c.start c.local) (rest_bytes b (c.payload - c.local) c.first)
      ∙ omega (arith, local-length, rest-length b h w.at.opened (c.payload - c.local) c.first cell-chained, w.split)

  pub payload-copied : (out out' out'' : List ℕ) → length out ≡ room → out' ≡ over out 0 (part (page_in b p) c.start c.local)
      → out'' ≡ over out' c.local (rest_bytes b (c.payload - c.local) c.first) → out'' ≡ cell_bytes b p c ++ drop c.payload out
  payload-copied out out' out'' l e f =
      let a = part (page_in b p) c.start c.local in
      let s = rest_bytes b (c.payload - c.local) c.first in
      let n : 0 + length (a ++ s) ≡ c.payload = omega (arith, cell-length) in
      f ∙ ap (λ x. over x c.local s) e ∙ over-join out a s 0 c.local (omega (arith, local-length, w.split, w.fits)) (omega (arith, local-length))
      ∙ ap (λ k. (a ++ s) ++ drop k out) n

  -- the same over a part of `out`, from `at` on
  pub copied_from : (at : ℕ) (out ys : List ℕ) → at ≤ length out → ys ≡ cell_bytes b p c ++ drop c.payload (take (length out - at) (drop at out))
      → put_mid at (length out - at) out ys ≡ over out at (cell_bytes b p c)
  copied_from at out ys h e =
      let whole : take (length out - at) (drop at out) ≡ drop at out = take_all _ (drop at out) (omega (arith, length-drop at out)) in
      let none : post_of at (length out - at) out ≡ [] = Post-is at (length out) out h ∙ drop-length out in
      let rest : drop c.payload (drop at out) ≡ drop (at + length (cell_bytes b p c)) out =
      drop-drop c.payload at out ∙ ap (λ n. drop (at + n) out) (sym cell-length) in
      let f : ys ≡ cell_bytes b p c ++ drop (at + length (cell_bytes b p c)) out = e ∙ ap (λ x. cell_bytes b p c ++ x) (ap (drop c.payload) whole ∙ rest) in
      ap (λ x. take at out ++ x) (ap (λ x. ys ++ x) none ∙ append-nil ys ∙ f)

-- with more room
pub fetchable-wider : {b : List ℕ} {h : Header} {p : ℕ} {c : Cell} {room : ℕ} (more : ℕ) → room ≤ more → Fetchable b h p c room → Fetchable b h p c more
fetchable-wider more l w = let f = w.fits in record { at = w.at; split = w.split; within = w.within; chain = w.chain; fits = omega arith }

-- the payload that the file's definitions read for cell i
pub payload-is : (b : List ℕ) (p i : ℕ) → payload_of b p i ≡ cell_bytes b p (cell_in b p i)
unfolding payload_of
payload-is b p i = refl
