-- A counter in a file made by sqlite3 (image/proofs/RealImages.antt): under root 3, row 4 stands in cell 1 of page 3, and there is room for a record with an integer of any size.
use Prim.Native.Nat.{ℕ, ◌+◌, ◌-◌, ◌*◌, ◌^◌, ◌≤◌}
use mathlib.Core.Path.{◌≡◌, refl, sym, ap, ◌∙◌, subst}
use mathlib.Core.Bool.{true, false, false≢true}
use mathlib.Core.List.{List, [], ◌∷◌}
use native.Mathlib.Omega.{arith}
use lib.IntN.{pos}
use lib.ListN.{length, take, replicate}
use lib.Seq.{take_all}
use mir.Syntax.{w64}
use mir.Val.{SFits}
use Rattle.number.specs.Bytes.{be, part}
use Rattle.header.specs.Header as H
use Rattle.header.specs.Header.{pages_of}
use Rattle.record.specs.Record.{reads_of}
use Rattle.paging.specs.Pages.{size_fits}
use Rattle.dealing.specs.Good.{Dealing}
use Rattle.image.specs.Payload.{payload_of}
use Rattle.image.proofs.RealImages.{tables}
use Rattle.verdict.specs.Verdict.{verdict_is, kinds_at}
use Rattle.verdict.specs.Answer.{Accepted}
use Rattle.lookup.specs.Answers.{lookup_of}
use Rattle.lookup.specs.Found as F
use Rattle.altered.proofs.Computing as compute
use Rattle.setting.specs.Relaid.{relaid}
use Rattle.setting.specs.Answers.{refusal_for}
use Rattle.setting.proofs.Examples.{laying}
use Rattle.wal.specs.State.{size_of}
use Rattle.wal.specs.Promises as W
use Rattle.appending.specs.Written.{header_bytes, frames_bytes}
use Rattle.appending.specs.Tail.{big_of}
use Rattle.appending.specs.Promises.{torn_at}
use Rattle.appending.proofs.HeaderLaws.{header-length}
use Rattle.appending.proofs.TailLaws.{told}
use Rattle.appending.proofs.Theorems.{header-accepted, append-cuts}
use Rattle.appending.proofs.AppendLaws as A
use Rattle.storage.specs.Disk.{Disk, disk_is, state_now, shown, Sound, File}
use Rattle.storage.specs.Deeds.{Deed, May, completed, Leaves, torn}
use Rattle.storage.specs.Lives.{Event, Life, Careful, used_numbers, Rising}
use Rattle.storage.proofs.DeedLaws.{self, alone-state, fresh-nothing, behind-accepted, behind-size}
use Rattle.storage.proofs.Theorems.{file-sound, completed-left}
use Rattle.wal.specs.State.{State}
use Rattle.counter.specs.Counter.{in_record, number_in, set_record, HasRow, Counter, Sets, SetsAll}
use Rattle.counter.proofs.Told.{row_told, dealing}
use Rattle.counter.proofs.Theorems.{set-may, set-number, set-record, deed-counts, counter-once}

abbrev lent : List ℕ
lent = replicate 12 0

pub accepted : verdict_is tables [] (length lent) (length lent) (length lent) ≡ Accepted (pages_of tables) 0
unfolding tables compute.verdicts
accepted = refl

pub found : lookup_of tables 3 (pos 4) ≡ F.At 3 1 6
unfolding tables compute.lookups
found = refl

-- a record with an integer of 8 bytes, the longest that a counter can need
abbrev longest : List ℕ
longest = 2 ∷ 6 ∷ replicate 8 0

pub fits-there : refusal_for tables (kinds_at tables [] lent (length lent) (length lent)) 3 3 1 (pos 4) longest ≡ 0
unfolding tables laying compute.verdicts compute.records
fits-there = refl

pub number-4 : SFits w64 (pos 4)
number-4 = omega arith

abbrev deal : Dealing
deal = dealing tables [] lent lent lent 0 accepted 3 (pos 4) number-4 3 1 6 found longest fits-there

pub has-row : HasRow tables deal 3 (pos 4) 3 1 10
has-row = row_told tables [] lent lent lent 0 accepted 3 (pos 4) number-4 3 1 6 found longest fits-there

a-file : File 512 tables
unfolding tables compute.headers H.pages_in H.size_refusal
a-file = record { passes = refl; names = refl }

size-512 : H.size_of tables ≡ 512
unfolding tables compute.headers
size-512 = refl

-- the disk: that file, and a fresh log
abbrev log : List ℕ
log = header_bytes 512 0 1 2

abbrev start : Disk
start = disk_is tables log

whole-header : take 32 log ≡ log
whole-header = take_all 32 log (omega (arith, header-length 512 0 1 2))

fits : size_fits 512 ≡ true
unfolding size_fits
fits = refl

sound : Sound start × (shown start ≡ tables)
sound =
    let s = file-sound 512 tables 0 1 2 32 a-file in
    subst (λ (l : List ℕ). Sound (disk_is tables l) × (shown (disk_is tables l) ≡ tables)) whole-header (s.0, s.1)

state-size : (state_now start).size ≡ 512
state-size =
    subst (λ (l : List ℕ). (state_now (disk_is tables l)).size ≡ 512) whole-header
    (ap (λ (s : State). s.size) (alone-state (take 32 log) tables (fresh-nothing 512 0 1 2 32 fits) a-file.passes) ∙ a-file.names)

pub counter : Counter start deal 3 (pos 4) 3 1 10
counter =
    record {
      sound = sound.0;
      names = ap H.size_of sound.1 ∙ size-512 ∙ sym state-size;
      has = subst (λ (b : List ℕ). HasRow b deal 3 (pos 4) 3 1 10) (sym sound.1) has-row;
    }

-- ==== The counter goes from 127, an integer of one byte, to 128, which takes two: the record grows, and the leaf is laid anew.
abbrev r127 : List ℕ
r127 = 2 ∷ 1 ∷ 127 ∷ []

abbrev r128 : List ℕ
r128 = 2 ∷ 2 ∷ 0 ∷ 128 ∷ []

reads-127 : reads_of r127 ≡ true
unfolding compute.records
reads-127 = refl

reads-128 : reads_of r128 ≡ true
unfolding compute.records
reads-128 = refl

is-127 : in_record 1 r127 ≡ 127 + 2 ^ 63
unfolding compute.records be
is-127 = refl

is-128 : in_record 1 r128 ≡ 128 + 2 ^ 63
unfolding compute.records be
is-128 = refl

-- the row had a text
is-text : in_record 1 (payload_of tables 3 1) ≡ 0
unfolding tables compute.payloads compute.records be
is-text = refl

header : W.Accepted (big_of log) log
header =
    let long : 32 ≤ length log = omega (arith, header-length 512 0 1 2) in
    let a = (header-accepted 512 0 1 2 log fits long (self log)).0 in
    subst (λ x. W.Accepted x log) (sym (told false log a)) a

log-size : size_of log ≡ 512
log-size = (header-accepted 512 0 1 2 log fits (omega (arith, header-length 512 0 1 2)) (self log)).1

abbrev number : List ℕ → ℕ
number b = number_in 3 (pos 4) 1 b

abbrev Counts : Disk → Type 0
Counts d = Counter d deal 3 (pos 4) 3 1 10

-- ---- 127
abbrev to127 : Deed
to127 = set_record start (pos 4) 3 1 r127

abbrev at127 : Disk
at127 = completed to127 start

pub may-127 : May to127 start
may-127 = set-may start deal 3 (pos 4) 3 1 10 counter r127 header (omega arith) reads-127

sets-127 : Sets (pos 4) 1 3 1 10 to127 start
sets-127 =
    let e : in_record 1 (payload_of (shown start) 3 1) ≡ 0 = ap (λ (b : List ℕ). in_record 1 (payload_of b 3 1)) sound.1 ∙ is-text in
    (r127, refl, record { short = omega arith; reads = reads-127; no_lower = omega arith })

left-127 : Leaves to127 start at127
left-127 = completed-left to127 start counter.sound may-127

pub counter-127 : Counts at127
counter-127 = deed-counts deal 3 (pos 4) 1 3 1 10 to127 start at127 counter may-127 sets-127 left-127

header-127 : W.Accepted (big_of at127.log) at127.log
header-127 =
    let a = behind-accepted (big_of log) log header _ in
    subst (λ x. W.Accepted x at127.log) (sym (told (big_of log) at127.log a)) a

size-127 : size_of at127.log ≡ 512
size-127 = behind-size (big_of log) log header _ ∙ log-size

record-127 : payload_of (shown at127) 3 1 ≡ r127
record-127 = set-record start deal 3 (pos 4) 3 1 10 counter r127 header (omega arith) reads-127

pub number-127 : number (shown at127) ≡ 127 + 2 ^ 63
number-127 = set-number start deal 3 (pos 4) 3 1 10 counter r127 header (omega arith) reads-127 1 ∙ is-127

-- ---- 128, and the power goes when 300 bytes are written
abbrev to128 : Deed
to128 = set_record at127 (pos 4) 3 1 r128

abbrev laid : List ℕ
laid = part (relaid (shown at127) 3 1 (pos 4) r128) ((3 - 1) * size_of at127.log) (size_of at127.log)

abbrev half : Disk
half = disk_is tables (torn_at (big_of at127.log) at127.log (state_now at127).pages (3 ∷ []) laid 300)

pub may-128 : May to128 at127
may-128 = set-may at127 deal 3 (pos 4) 3 1 10 counter-127 r128 header-127 (omega arith) reads-128

lower-128 : (d : Disk) → payload_of (shown d) 3 1 ≡ r127 → in_record 1 (payload_of (shown d) 3 1) ≤ in_record 1 r128
lower-128 d e = let x : in_record 1 (payload_of (shown d) 3 1) ≡ 127 + 2 ^ 63 = ap (in_record 1) e ∙ is-127 in omega (arith, x, is-128)

sets-128 : Sets (pos 4) 1 3 1 10 to128 at127
sets-128 = (r128, refl, record { short = omega arith; reads = reads-128; no_lower = lower-128 at127 record-127 })

half-left : Leaves to128 at127 half
half-left = (refl, torn 300 refl)

-- 127 is shown
pub half-shown : shown half ≡ shown at127
half-shown =
    let n : length (frames_bytes (big_of at127.log) at127.log (state_now at127).pages (3 ∷ []) laid) ≡ 1 * (24 + size_of at127.log) =
    A.added-length (big_of at127.log) at127.log (state_now at127).pages (3 ∷ []) laid header-127 may-128.fits in
    ((append-cuts (big_of at127.log) at127.log (state_now at127).pages (3 ∷ []) laid 300 header-127 may-128.fits (omega (arith, n, size-127))).1 tables).whole

pub counter-half : Counts half
counter-half = deed-counts deal 3 (pos 4) 1 3 1 10 to128 at127 half counter-127 may-128 sets-128 half-left

half-header : W.Accepted (big_of half.log) half.log
half-header =
    let a = behind-accepted (big_of at127.log) at127.log header-127 _ in
    subst (λ x. W.Accepted x half.log) (sym (told (big_of at127.log) half.log a)) a

record-half : payload_of (shown half) 3 1 ≡ r127
record-half = ap (λ (b : List ℕ). payload_of b 3 1) half-shown ∙ record-127

number-half : number (shown half) ≡ 127 + 2 ^ 63
number-half = ap number half-shown ∙ number-127

-- ---- it is done again: 128 is shown, and 127, which was read before, may be used
abbrev again128 : Deed
again128 = set_record half (pos 4) 3 1 r128

abbrev at128 : Disk
at128 = completed again128 half

pub may-again : May again128 half
may-again = set-may half deal 3 (pos 4) 3 1 10 counter-half r128 half-header (omega arith) reads-128

sets-again : Sets (pos 4) 1 3 1 10 again128 half
sets-again = (r128, refl, record { short = omega arith; reads = reads-128; no_lower = lower-128 half record-half })

pub record-128 : payload_of (shown at128) 3 1 ≡ r128
record-128 = set-record half deal 3 (pos 4) 3 1 10 counter-half r128 half-header (omega arith) reads-128

pub number-128 : number (shown at128) ≡ 128 + 2 ^ 63
number-128 = set-number half deal 3 (pos 4) 3 1 10 counter-half r128 half-header (omega arith) reads-128 1 ∙ is-128

-- ---- the life
abbrev events : List Event
events =
    record { deed = to127; done = true; after = at127; used = false }
    ∷ record { deed = to128; done = false; after = half; used = false }
    ∷ record { deed = again128; done = true; after = at128; used = true }
    ∷ []

pub a-life : Life start events
unfolding Life
a-life = (may-127, refl, (may-128, half-left, (may-again, refl, tt)))

pub all_set : SetsAll (pos 4) 1 3 1 10 start events
unfolding SetsAll
all_set = (sets-127, (sets-128, (sets-again, tt)))

pub careful : Careful number start events
unfolding Careful
careful = (λ u. absurd (false≢true u), (λ u. absurd (false≢true u), (λ u. (refl, omega (arith, number-half, number-128)), tt)))

pub used-127 : used_numbers number start events ≡ (127 + 2 ^ 63) ∷ []
unfolding used_numbers
used-127 = ap (λ (n : ℕ). n ∷ []) number-half

pub once : Rising (used_numbers number start events)
once = counter-once deal 3 (pos 4) 1 3 1 10 start events counter a-life all_set careful
