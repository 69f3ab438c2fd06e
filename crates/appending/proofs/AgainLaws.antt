-- An accepted little-endian header is a header that was written.
use Rattle.std.proofs.Common.{◌≡◌, ℕ, ◌+◌, ◌≤◌, false, List, ◌++◌, length, drop, sym, ap, ◌∙◌, subst, arith}
use lib.Seq.{take-add, drop-drop}
use Rattle.number.specs.Bytes.{byte_at, be, part}
use Rattle.number.proofs.VarintReading.{Stands}
use Rattle.paging.proofs.PagesLaws.{part_at, part_length}
use Rattle.wal.specs.Sums.{sums_over}
use Rattle.wal.specs.Frames.{header_sums}
use Rattle.wal.specs.State.{little_magic, log_version, size_of}
use Rattle.wal.specs.Promises.{Accepted}
use Rattle.appending.specs.Written.{word4, header_fields, field_sums, header_bytes}
use Rattle.appending.proofs.StandLaws.{sums_same}
use Rattle.appending.proofs.SealLaws.{carried-is}
use Rattle.appending.proofs.BytesLaws.{AllBytes, word-again, words-again}

part-join : (b : List ℕ) (at n m to : ℕ) → to ≡ at + n → part b at n ++ part b to m ≡ part b at (n + m)
part-join b at n m to e = rw (e, ← drop-drop n at b) (sym (take-add n m (drop at b)))

module _ (log : List ℕ) (a : Accepted false log) (f : AllBytes log) where
  long : 32 ≤ length log
  long = a.long

  word : (at n : ℕ) → be 4 log at ≡ n → at + 4 ≤ length log → word4 n ≡ part log at 4
  word at n e l = ap word4 (sym e) ∙ word-again log at f l

  fields-are : header_fields (size_of log) (be 4 log 12) (be 4 log 16) (be 4 log 20) ≡ part log 0 24
  unfolding header_fields
  fields-are =
      let l : 32 ≤ length log = long in
      rw (
        word 0 little_magic a.magic (omega arith),
        word 4 log_version a.version (omega arith),
        word-again log 8 f (omega arith),
        word-again log 12 f (omega arith),
        words-again log 16 20 f (omega arith) (omega arith),
        part-join log 12 4 8 16 (omega arith),
        part-join log 8 4 12 12 (omega arith),
        part-join log 4 4 16 8 (omega arith),
      ) (part-join log 0 4 20 4 (omega arith))

  sums-are : field_sums (size_of log) (be 4 log 12) (be 4 log 16) (be 4 log 20) ≡ (be 4 log 24, be 4 log 28)
  sums-are =
      ap (λ (x : List ℕ). sums_over false x 0 3 (0, 0)) fields-are
      ∙ sums_same false (part log 0 24) log 0 0 3 (0, 0) (λ i l. part_at log 0 24 (0 + i) (omega arith) ∙ ap (byte_at log) (omega arith))
      ∙ carried-is log 8 (header_sums false log) a.sums

  pub header-again : header_bytes (size_of log) (be 4 log 12) (be 4 log 16) (be 4 log 20) ≡ part log 0 32
  unfolding header_bytes
  header-again =
      let l : 32 ≤ length log = long in
      rw (sums-are, fields-are, words-again log 24 28 f (omega arith) (omega arith)) (part-join log 0 24 8 24 (omega arith))

  pub header-stands : Stands log 0 (header_bytes (size_of log) (be 4 log 12) (be 4 log 16) (be 4 log 20))
  header-stands =
      subst (Stands log 0) (sym header-again)
      (λ i l. sym (part_at log 0 32 i (omega (arith, part_length log 0 32 (omega (arith, long))))))
