-- The verdict on an image, for ledgers of given lengths, and the ledgers at exit.
use Rattle.std.specs.Prelude.{ℕ, Bool, true, false, cond, List, ◌++◌, eqb, ltb, length, drop, replicate}
use Rattle.header.specs.Header.{header_refusal, pages_of}
use Rattle.dealing.specs.File.{File}
use Rattle.dealing.specs.Spelling.{long_by}
use Rattle.dealing.specs.Steps.{steps_by}
use Rattle.dealing.specs.Walk.{Event, final, name_checks, Verdict, accepted, refusal, verdict_for}
use Rattle.image.specs.Image.{file_of}
use Rattle.names.specs.Names.{bad34}
use Rattle.verdict.specs.Answer as D
use Rattle.verdict.specs.Judgement as J

abbrev pub refused : (number page : ℕ) → D.Answer
refused number page = D.Refused number page

-- the walk's verdict on a file, with the count of numbers spelled long
abbrev pub answer_of : File → Verdict → D.Answer
answer_of f (accepted ks ns) = D.Accepted f.N (long_by f ks)
answer_of f (refusal number page) = refused number page

-- the same before numbers are counted, in an image of N pages
abbrev pub dismissed : (number page : ℕ) → J.Judgement
dismissed number page = J.Refused number page

abbrev pub judgement_of : (N : ℕ) → Verdict → J.Judgement
judgement_of N (accepted ks ns) = J.Accepted N
judgement_of N (refusal number page) = dismissed number page

-- the first N entries of the ledgers then: the kinds, the namers and the steps that these tell, or zeros
abbrev pub kinds_of : (N : ℕ) → Verdict → List ℕ
kinds_of N (accepted ks ns) = ks
kinds_of N (refusal number page) = replicate N 0

abbrev pub namers_of : (N : ℕ) → Verdict → List ℕ
namers_of N (accepted ks ns) = ns
namers_of N (refusal number page) = replicate N 0

abbrev pub steps_of : (N : ℕ) → Verdict → List ℕ
steps_of N (accepted ks ns) = steps_by ns N
steps_of N (refusal number page) = replicate N 0

-- what is checked of the finished ledgers of the walk: 31 and 32, then each name (35)
abbrev pub last_checks : (ordered : List ℕ) → File → (kinds namers : List ℕ) → List Event
last_checks ordered f ks ns = final f ks ns ++ name_checks f ks ordered

-- a ledger is too small (12)
abbrev pub too_small : (N kinds namers steps : ℕ) → Bool
too_small N k n s = cond (ltb k N) true (cond (ltb n N) true (ltb s N))

-- refusals 1 to 11, 34 and 12, in this order, which report page 0, then the walk's verdict; the caller names the roots in `ordered` as plain ascending;
-- `kinds`, `namers` and `steps` are the ledgers' lengths
unfoldable pub verdict_is : (b ordered : List ℕ) (kinds namers steps : ℕ) → D.Answer
verdict_is b ordered k n s =
    cond (eqb (header_refusal b) 0)
    (cond (bad34 ordered b) (refused 34 0)
    (cond (too_small (pages_of b) k n s) (refused 12 0) (answer_of (file_of b) (verdict_for ordered (file_of b)))))
    (refused (header_refusal b) 0)

-- the walk begins: none of 1 to 12 and 34 refuses
unfoldable pub begins : (b ordered : List ℕ) (kinds namers steps : ℕ) → Bool
begins b ordered k n s = cond (eqb (header_refusal b) 0) (cond (bad34 ordered b) false (cond (too_small (pages_of b) k n s) false true)) false

-- the ledgers at exit: untouched where the walk does not begin; entries past N never change
unfoldable pub kinds_at : (b ordered kinds : List ℕ) (namers steps : ℕ) → List ℕ
kinds_at b ordered ks n s = cond (begins b ordered (length ks) n s) (kinds_of (pages_of b) (verdict_for ordered (file_of b)) ++ drop (pages_of b) ks) ks

unfoldable pub namers_at : (b ordered : List ℕ) (kinds : ℕ) (namers : List ℕ) (steps : ℕ) → List ℕ
namers_at b ordered k ns s = cond (begins b ordered k (length ns) s) (namers_of (pages_of b) (verdict_for ordered (file_of b)) ++ drop (pages_of b) ns) ns

unfoldable pub steps_at : (b ordered : List ℕ) (kinds namers : ℕ) (steps : List ℕ) → List ℕ
steps_at b ordered k n ss = cond (begins b ordered k n (length ss)) (steps_of (pages_of b) (verdict_for ordered (file_of b)) ++ drop (pages_of b) ss) ss
