-- What the functions below the verdict answer.
use Rattle.std.specs.Prelude.{ℕ, ◌≡◌, true, List, ◌∷◌, length}
use Rattle.dealing.specs.File.{File, schema_root, level_limit}
use Rattle.dealing.specs.Walk.{schema_tree, start, page_events, blank, went, run, Verdict, verdict_for}
use Rattle.image.specs.Image.{file_of}
use Rattle.ledger.specs.Ledger.{state_of}
use Rattle.ledger.specs.declared.Tree.{Tree}
use Rattle.verdict.specs.Verdict.{answer_of, judgement_of, kinds_of, namers_of, steps_of, verdict_is, kinds_at, namers_at, steps_at}
use Rattle.verdict.specs.Answer as D
use Rattle.verdict.specs.Judgement as J

-- the schema tree was walked through, from the blank ledgers to these
pub record SchemaWalked (b ks ns : List ℕ) (t : Tree) : Type 0 where
  pub goes : run (file_of b).N (blank (file_of b)) (start ∷ page_events (file_of b) schema_tree level_limit schema_root 1) ≡ went (state_of b ks ns t)

-- a verdict, with ledgers of N entries, before numbers are counted
pub record Judged (N : ℕ) (v : Verdict) (r : J.Judgement) (ks ns : List ℕ) : Type 0 where
  pub answer : r ≡ judgement_of N v
  pub kinds : ks ≡ kinds_of N v
  pub namers : ns ≡ namers_of N v

-- the walk's verdict as the answer, with the count and the steps
pub record Told (ordered : List ℕ) (f : File) (r : D.Answer) (ks ns ss : List ℕ) : Type 0 where
  pub answer : r ≡ answer_of f (verdict_for ordered f)
  pub kinds : ks ≡ kinds_of f.N (verdict_for ordered f)
  pub namers : ns ≡ namers_of f.N (verdict_for ordered f)
  pub steps : ss ≡ steps_of f.N (verdict_for ordered f)

-- the answer, and the ledgers at exit
pub record Answers (b ordered ks ns ss : List ℕ) (r : D.Answer) (ks' ns' ss' : List ℕ) : Type 0 where
  pub answer : r ≡ verdict_is b ordered (length ks) (length ns) (length ss)
  pub kinds : ks' ≡ kinds_at b ordered ks (length ns) (length ss)
  pub namers : ns' ≡ namers_at b ordered (length ks) ns (length ss)
  pub steps : ss' ≡ steps_at b ordered (length ks) (length ns) ss
