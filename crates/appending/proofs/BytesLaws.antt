-- Lists of bytes, and numbers of 4 bytes written again.
use Rattle.std.proofs.Common.{◌≡◌, ℕ, zero, suc, ◌+◌, ◌-◌, ◌*◌, ◌/◌, ◌%◌, ◌<◌, ◌≤◌, Bool, List, [], ◌∷◌, ◌++◌, length, take, drop, refl, sym, ap, ⊎_elim, arith, length-take, length-drop}
use Rattle.std.proofs.lemmas.List.{get_or_past}
use lib.ListN.{get_or-append}
use lib.Seq.{get_or-append-add, get_or-take, get_or-drop, take-suc, take-add, drop-drop}
use Rattle.number.specs.Bytes.{byte_at, be, part}
use Rattle.number.proofs.Cases.{lt-or-ge}
use Rattle.wal.specs.Sums.{Sums}
use Rattle.appending.specs.Written.{be_bytes, word4, sum_bytes, header_fields, field_sums, header_bytes, frame_head, sums_on, frame_bytes, commit_for, frames_from}

abbrev pub AllBytes : List ℕ → Type 0
AllBytes b = (i : ℕ) → byte_at b i < 256

pub bytes-none : AllBytes []
bytes-none i = omega (arith, get_or_past {X = ℕ} [] i 0 (omega arith))

pub bytes-append : (a b : List ℕ) → AllBytes a → AllBytes b → AllBytes (a ++ b)
bytes-append a b f g i =
    ⊎_elim
    (λ (l : i < length a). omega (arith, get_or-append a b 0 i l, f i))
    (λ (l : length a ≤ i).
    let e : length a + (i - length a) ≡ i = omega arith in
    omega (arith, ap (byte_at (a ++ b)) e, get_or-append-add a b (i - length a) 0, g (i - length a)))
    (lt-or-ge i (length a))

pub bytes-take : (n : ℕ) (b : List ℕ) → AllBytes b → AllBytes (take n b)
bytes-take n b f i =
    ⊎_elim
    (λ (l : i < n). omega (arith, get_or-take n b i 0 l, f i))
    (λ (l : n ≤ i). omega (arith, get_or_past (take n b) i 0 (omega (arith, length-take n b))))
    (lt-or-ge i n)

pub bytes-drop : (n : ℕ) (b : List ℕ) → AllBytes b → AllBytes (drop n b)
bytes-drop n b f i = omega (arith, get_or-drop n b i 0, f (n + i))

-- ---- what is written
bytes-one : (n : ℕ) → AllBytes ((n % 256) ∷ [])
bytes-one n zero = omega arith
bytes-one n (suc i) = omega (arith, bytes-none i)

bytes-be : (k n : ℕ) → AllBytes (be_bytes k n)
unfolding be_bytes
bytes-be zero n = bytes-none
bytes-be (suc k) n = bytes-append (be_bytes k (n / 256)) ((n % 256) ∷ []) (bytes-be k (n / 256)) (bytes-one n)

pub bytes-words : (n m : ℕ) → AllBytes (word4 n ++ word4 m)
bytes-words n m = bytes-append (word4 n) (word4 m) (bytes-be 4 n) (bytes-be 4 m)

pub bytes-header : (size sequence salt1 salt2 : ℕ) → AllBytes (header_bytes size sequence salt1 salt2)
unfolding header_bytes header_fields
bytes-header size sequence salt1 salt2 =
    let t : Sums = field_sums size sequence salt1 salt2 in
    bytes-append (header_fields size sequence salt1 salt2) (sum_bytes t) fields (bytes-words t.0 t.1)
  where
    fields : AllBytes (header_fields size sequence salt1 salt2)
    fields = bytes-append _ _ (bytes-be 4 _) (bytes-append _ _ (bytes-be 4 _) (bytes-append _ _ (bytes-be 4 size) (bytes-append _ _ (bytes-be 4 sequence) (bytes-words salt1 salt2))))

pub bytes-frames : (big : Bool) (size : ℕ) (salts : List ℕ) (n : ℕ) (numbers pages : List ℕ) (s : Sums) → AllBytes salts → AllBytes pages
    → AllBytes (frames_from big size salts n numbers pages s)
unfolding frames_from frame_bytes
bytes-frames big size salts n [] pages s f g = bytes-none
bytes-frames big size salts n (p ∷ rest) pages s f g =
    let commit : ℕ = commit_for n (length rest) in
    let page : List ℕ = take size pages in
    let t : Sums = sums_on big size p commit page s in
    bytes-append (frame_bytes salts p commit page t) (frames_from big size salts n rest (drop size pages) t)
    (bytes-append (frame_head p commit) (salts ++ (sum_bytes t ++ page)) (bytes-words p commit)
    (bytes-append salts (sum_bytes t ++ page) f (bytes-append (sum_bytes t) page (bytes-words t.0 t.1) (bytes-take size pages g))))
    (bytes-frames big size salts n rest (drop size pages) t f (bytes-drop size pages g))

-- ---- a number written again
be-again : (k : ℕ) (b : List ℕ) (at : ℕ) → AllBytes b → at + k ≤ length b → be_bytes k (be k b at) ≡ part b at k
unfolding be_bytes be
be-again zero b at f h = refl
be-again (suc k) b at f h =
    let x : (be k b at * 256 + byte_at b (at + k)) / 256 ≡ be k b at = omega (arith, f (at + k)) in
    let y : (be k b at * 256 + byte_at b (at + k)) % 256 ≡ byte_at b (at + k) = omega (arith, f (at + k)) in
    let z : byte_at (drop at b) k ≡ byte_at b (at + k) = get_or-drop at b k 0 in
    rw (x, y, be-again k b at f (omega arith), ← z) (sym (take-suc (drop at b) k 0 (omega (arith, length-drop at b))))

pub word-again : (b : List ℕ) (at : ℕ) → AllBytes b → at + 4 ≤ length b → word4 (be 4 b at) ≡ part b at 4
word-again b at f h = be-again 4 b at f h

pub words-again : (b : List ℕ) (at next : ℕ) → AllBytes b → next ≡ at + 4 → at + 8 ≤ length b → word4 (be 4 b at) ++ word4 (be 4 b next) ≡ part b at 8
words-again b at next f e h =
    rw (word-again b at f (omega arith), word-again b next f (omega arith), e, ← drop-drop 4 at b) (sym (take-add 4 4 (drop at b)))
