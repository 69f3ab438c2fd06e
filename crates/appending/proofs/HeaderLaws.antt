-- A header that was written.
use Prim.Native.Nat.{ℕ, ◌^◌, ◌<◌, ◌≤◌}
use mathlib.Core.Path.{◌≡◌, refl, ap, ◌∙◌, subst}
use mathlib.Core.Bool.{Bool, true, false}
use mathlib.Core.List.{List, ◌++◌, append_assoc}
use native.Mathlib.Omega.{arith}
use lib.ListN.{length, length-append}
use borrow.Author.Tests.{eq-eqb, lt-ltb}
use Rattle.number.specs.Bytes.{byte_at, be}
use Rattle.number.proofs.VarintReading.{Stands}
use Rattle.paging.specs.Pages.{size_fits}
use Rattle.paging.proofs.PagesLaws.{fits-range}
use Rattle.wal.specs.Sums.{Sums, sums_over}
use Rattle.wal.specs.Frames.{holds, carries, header_sums, last_commit}
use Rattle.wal.specs.State.{little_magic, log_version, size_of, nothing, state_at, state_of}
use Rattle.wal.specs.Promises.{Accepted}
use Rattle.wal.proofs.FrameLaws.{frame-first, frame-next, short-fails}
use Rattle.wal.proofs.CutLaws.{accepted-state, commit-before}
use Rattle.appending.specs.Written.{word4, sum_bytes, header_fields, field_sums, header_bytes}
use Rattle.appending.proofs.StandLaws.{stands-front, stands-past, word-length, words-length, word_read, sums-stand, Low, sums-low}

module _ (size sequence salt1 salt2 : ℕ) where
  abbrev fields : List ℕ
  fields = header_fields size sequence salt1 salt2

  abbrev t : Sums
  t = field_sums size sequence salt1 salt2

  pub fields-length : length fields ≡ 24
  unfolding header_fields
  fields-length =
      omega (
        arith,
        length-append (word4 little_magic) (word4 log_version ++ (word4 size ++ (word4 sequence ++ (word4 salt1 ++ word4 salt2)))),
        length-append (word4 log_version) (word4 size ++ (word4 sequence ++ (word4 salt1 ++ word4 salt2))),
        length-append (word4 size) (word4 sequence ++ (word4 salt1 ++ word4 salt2)),
        length-append (word4 sequence) (word4 salt1 ++ word4 salt2),
        words-length salt1 salt2,
        word-length little_magic,
        word-length log_version,
        word-length size,
        word-length sequence,
      )

  pub header-length : length (header_bytes size sequence salt1 salt2) ≡ 32
  unfolding header_bytes
  header-length = omega (arith, length-append fields (sum_bytes t), fields-length, words-length t.0 t.1)

  low : Low t
  low = sums-low false fields 0 3 (0, 0) (omega arith, omega arith)

  module _ (log : List ℕ) (long : 32 ≤ length log) (stands : Stands log 0 (header_bytes size sequence salt1 salt2)) where
    s-fields : Stands log 0 fields
    unfolding header_bytes
    s-fields = stands-front log 0 fields (sum_bytes t) stands

    s-sums : Stands log 24 (sum_bytes t)
    unfolding header_bytes
    s-sums = stands-past log 0 24 fields (sum_bytes t) fields-length stands

    s-4 : Stands log 4 (word4 log_version ++ (word4 size ++ (word4 sequence ++ (word4 salt1 ++ word4 salt2))))
    unfolding header_fields
    s-4 = stands-past log 0 4 (word4 little_magic) _ (word-length little_magic) s-fields

    s-8 : Stands log 8 (word4 size ++ (word4 sequence ++ (word4 salt1 ++ word4 salt2)))
    s-8 = stands-past log 4 4 (word4 log_version) _ (word-length log_version) s-4

    s-12 : Stands log 12 (word4 sequence ++ (word4 salt1 ++ word4 salt2))
    s-12 = stands-past log 8 4 (word4 size) _ (word-length size) s-8

    s-16 : Stands log 16 (word4 salt1 ++ word4 salt2)
    s-16 = stands-past log 12 4 (word4 sequence) _ (word-length sequence) s-12

    r-magic : be 4 log 0 ≡ little_magic
    unfolding header_fields
    r-magic = word_read little_magic log 0 (omega arith) (stands-front log 0 (word4 little_magic) _ s-fields)

    r-version : be 4 log 4 ≡ log_version
    r-version = word_read log_version log 4 (omega arith) (stands-front log 4 (word4 log_version) _ s-4)

    pub written-sums : header_sums false log ≡ t
    written-sums = sums-stand false log 0 fields 3 (0, 0) (omega (arith, fields-length)) s-fields

    r-sum0 : be 4 log 24 ≡ t.0
    r-sum0 = word_read t.0 log 24 low.0 (stands-front log 24 (word4 t.0) (word4 t.1) s-sums)

    r-sum1 : be 4 log 28 ≡ t.1
    r-sum1 = word_read t.1 log 28 low.1 (stands-past log 24 4 (word4 t.0) (word4 t.1) (word-length t.0) s-sums)

    module _ (ok : size_fits size ≡ true) where
      pub written-size : size_of log ≡ size
      written-size = let r = fits-range size ok in word_read size log 8 (omega arith) (stands-front log 8 (word4 size) _ s-8)

      pub written-accepted : Accepted false log
      unfolding carries
      written-accepted =
          record {
            long = long;
            magic = r-magic;
            sums = simp (written-sums, eq-eqb _ _ r-sum0, eq-eqb _ _ r-sum1);
            version = r-version;
            size = ap size_fits written-size ∙ ok;
          }

      pub written-salt1 : salt1 < 2 ^ 32 → be 4 log 16 ≡ salt1
      written-salt1 l = word_read salt1 log 16 l (stands-front log 16 (word4 salt1) (word4 salt2) s-16)

      pub written-salt2 : salt2 < 2 ^ 32 → be 4 log 20 ≡ salt2
      written-salt2 l = word_read salt2 log 20 l (stands-past log 16 4 (word4 salt1) (word4 salt2) (word-length salt1) s-16)

-- ---- the first 12 bytes are those of every header with that page size
abbrev pub first_bytes : (size : ℕ) → List ℕ
first_bytes size = word4 little_magic ++ (word4 log_version ++ word4 size)

pub written-first : (size sequence salt1 salt2 : ℕ) (log : List ℕ) → Stands log 0 (header_bytes size sequence salt1 salt2) → Stands log 0 (first_bytes size)
unfolding header_bytes header_fields
written-first size sequence salt1 salt2 log s =
    let r : List ℕ = word4 sequence ++ (word4 salt1 ++ word4 salt2) in
    let t : List ℕ = sum_bytes (sums_over false (header_fields size sequence salt1 salt2) 0 3 (0, 0)) in
    let e : header_bytes size sequence salt1 salt2 ≡ first_bytes size ++ (r ++ t) = regroup (word4 little_magic) (word4 log_version) (word4 size) r t in
    stands-front log 0 (first_bytes size) (r ++ t) (subst (Stands log 0) e s)
  where
    regroup : (a b c r t : List ℕ) → (a ++ (b ++ (c ++ r))) ++ t ≡ (a ++ (b ++ c)) ++ (r ++ t)
    regroup a b c r t = simp append_assoc

module _ (size : ℕ) (log : List ℕ) (s : Stands log 0 (first_bytes size)) where
  pub first-magic : be 4 log 0 ≡ little_magic
  first-magic = word_read little_magic log 0 (omega arith) (stands-front log 0 (word4 little_magic) _ s)

  rest-4 : Stands log 4 (word4 log_version ++ word4 size)
  rest-4 = stands-past log 0 4 (word4 little_magic) _ (word-length little_magic) s

  pub first-version : be 4 log 4 ≡ log_version
  first-version = word_read log_version log 4 (omega arith) (stands-front log 4 (word4 log_version) _ rest-4)

  pub first-size : size_fits size ≡ true → size_of log ≡ size
  first-size ok =
      let r = fits-range size ok in
      word_read size log 8 (omega arith) (stands-past log 4 4 (word4 log_version) _ (word-length log_version) rest-4)

-- a log under 32 bytes has nothing to recover
pub short-nothing : (log : List ℕ) → length log < 32 → state_of log ≡ nothing
unfolding state_of
short-nothing log l = simp (lt-ltb (length log) 32 l)

-- and a log whose first frame fails neither
pub none-nothing : (big : Bool) (log : List ℕ) → Accepted big log → holds big (size_of log) log 0 ≡ false → state_of log ≡ nothing
unfolding state_at
none-nothing big log a h =
    let e : last_commit big (size_of log) log ≡ 0 = let l = commit-before big log 0 h in omega arith in
    accepted-state big log a ∙ rw e refl

-- ---- a header by itself
module _ (size sequence salt1 salt2 : ℕ) (ok : size_fits size ≡ true) where
  abbrev header : List ℕ
  header = header_bytes size sequence salt1 salt2

  pub itself : Stands header 0 header
  itself i h = ap (byte_at header) (omega arith)

  long : 32 ≤ length header
  long = omega (arith, header-length size sequence salt1 salt2)

  pub header-accepted : Accepted false header
  header-accepted = written-accepted size sequence salt1 salt2 header long itself ok

  first-fails : holds false (size_of header) header 0 ≡ false
  first-fails =
      short-fails false (size_of header) header 0 (omega (arith, header-length size sequence salt1 salt2, frame-first (size_of header), frame-next (size_of header) 0))

  pub header-none : last_commit false (size_of header) header ≡ 0
  header-none = let l = commit-before false header 0 first-fails in omega arith

  pub header-nothing : state_of header ≡ nothing
  header-nothing = none-nothing false header header-accepted first-fails
