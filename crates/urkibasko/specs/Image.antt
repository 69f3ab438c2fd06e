use Rattle.std.specs.Prelude.{ℕ, ◌≡◌, ◌≢◌}
use Rattle.lookup.specs.Found as F
use Rattle.lookup.specs.Fetched as P
use Rattle.urkibasko.specs.declared.answers.UrkVerdict.{UrkVerdict}
use Rattle.urkibasko.specs.declared.answers.UrkFound.{UrkFound}
use Rattle.urkibasko.specs.declared.answers.UrkPayload.{UrkPayload}
use Rattle.verdict.specs.Answer as A

-- the pages of an accepted image, and its numbers spelled long; a refusal with its page
abbrev pub verdict_c : A.Answer → UrkVerdict
verdict_c (A.Accepted pages long) = record { refusal = 0; page = 0; pages = pages; long_spellings = long }
verdict_c (A.Refused number page) = record { refusal = number; page = page; pages = 0; long_spellings = 0 }

-- the answer accepts, and tells n pages and k numbers spelled long
abbrev pub AcceptsC : UrkVerdict → (n k : ℕ) → Type 0
AcceptsC r n k = (r.refusal ≡ 0) × (r.pages ≡ n) × (r.long_spellings ≡ k)

abbrev pub found_is : (refusal page found cell length : ℕ) → UrkFound
found_is refusal page found cell length = record { refusal = refusal; page = page; found = found; cell = cell; length = length }

-- found 1 with page, cell and length; found 0 and the rest 0; a refusal with its page
abbrev pub found_c : F.Found → UrkFound
found_c F.Nothing = found_is 0 0 0 0 0
found_c (F.At page cell length) = found_is 0 page 1 cell length
found_c (F.Refused number page) = found_is number page 0 0 0

-- the answer is that cell, with that length; it is nothing; it is a refusal
abbrev pub ShowsC : UrkFound → (page cell n : ℕ) → Type 0
ShowsC r page cell n = (r.refusal ≡ 0) × (r.found ≡ 1) × (r.page ≡ page) × (r.cell ≡ cell) × (r.length ≡ n)

abbrev pub NothingC : UrkFound → Type 0
NothingC r = (r.refusal ≡ 0) × (r.found ≡ 0)

abbrev pub RefusesC : UrkFound → Type 0
RefusesC r = r.refusal ≢ 0

-- the length; a refusal with its page
abbrev pub payload_c : P.Fetched → UrkPayload
payload_c (P.Copied length) = record { refusal = 0; page = 0; length = length }
payload_c (P.Refused number page) = record { refusal = number; page = page; length = 0 }

-- so many bytes were copied; there was no room
abbrev pub CopiedC : UrkPayload → (n : ℕ) → Type 0
CopiedC r n = (r.refusal ≡ 0) × (r.length ≡ n)

abbrev pub NoRoomC : UrkPayload → Type 0
NoRoomC r = r.refusal ≡ 44
