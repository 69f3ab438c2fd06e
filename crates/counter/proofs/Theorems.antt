-- A counter in a row: the commit of one page sets it, and along a life no number is used twice.
use Prim.Native.Nat.{ℕ, zero, suc, ◌+◌, ◌-◌, ◌*◌, ◌<◌, ◌≤◌}
use mathlib.Core.Path.{◌≡◌, refl, sym, ap, ◌∙◌, subst}
use mathlib.Core.Logic.{◌≢◌, inl, inr, ⊎_elim}
use mathlib.Core.Bool.{true}
use mathlib.Core.List.{List, [], ◌∷◌}
use native.Mathlib.Nat.{le_of_mul-le-mul_right, mul-le-mul_right, zero-mul}
use native.Mathlib.Omega.{arith}
use lib.IntN.{ℤ}
use lib.ListN.{length, get_or}
use lib.Seq.{ext_get_or, take_all}
use borrow.Author.Tests.{eq-eqb}
use Rattle.number.specs.Bytes.{part}
use Rattle.number.proofs.BeLaws.{be-same}
use Rattle.record.specs.Record.{reads_of}
use Rattle.paging.specs.Pages.{lock_page}
use Rattle.paging.proofs.LockLaws.{lock-past}
use Rattle.paging.proofs.PagesLaws.{page-fits, pages-apart, part_length, part_at}
use Rattle.header.specs.Header as H
use Rattle.header.specs.Header.{pages_of, header_of}
use Rattle.header.specs.Pages as P
use Rattle.header.proofs.Laws.{Formed, formed-cut, passed-form, alone-passed, page-end}
use Rattle.page.proofs.Spans.{order}
use Rattle.dealing.specs.File.{Page, Fixed}
use Rattle.dealing.specs.Good.{Dealing, TreePage}
use Rattle.image.specs.Image.{file_of}
use Rattle.image.specs.Maps.{fixed_in}
use Rattle.image.specs.Payload.{payload_of}
use Rattle.image.specs.Good.{GoodDealing, PayloadCell}
use Rattle.image.proofs.Fields.{N-field, fixed-field}
use Rattle.image.proofs.Shape.{shape, opened-headed}
use Rattle.lookup.proofs.Theorems.{opened-image}
use Rattle.setting.specs.Relaid.{relaid, Settable}
use Rattle.setting.specs.Relaid as Re
use Rattle.setting.specs.Answers.{set_of, image_after, Own}
use Rattle.setting.proofs.Keeps as K
use Rattle.setting.proofs.Theorems.{relaid_good}
use Rattle.setting.proofs.Again.{found_before, found-again, carries-again, still, set-answers, set-image}
use Rattle.wal.specs.State.{size_of}
use Rattle.wal.specs.Promises.{Accepted}
use Rattle.wal.proofs.AgreeLaws.{succeeds, whole_length}
use Rattle.wal.proofs.ViewLaws.{state-bounds}
use Rattle.appending.specs.Appended.{Appended}
use Rattle.appending.specs.Tail.{big_of, IsTail}
use Rattle.appending.specs.Promises.{Fits, Appends, written_to}
use Rattle.storage.specs.Disk.{Disk, state_now, shown, Sound, File}
use Rattle.storage.specs.Deeds.{Deed, commit, checkpoint, restart, renew, Given, MayRestart, May, completed, Leaves}
use Rattle.storage.specs.Lives.{Event, Life, Holds, NeverLowers, Careful, used_numbers, Rising, disk_at}
use Rattle.storage.proofs.Theorems.{commit-makes, never-falls, no-number-twice, cut-shows, checkpoint-shows, restart-shows, renew-shows, ends-left, restart-behind, appended-may}
use Rattle.counter.specs.Counter.{in_record, in_row, number_in, set_record, HasRow, Counter, Sets, SetsAll}

-- ---- no page of a tree is the lock-byte page
unlocked : (b : List ℕ) (d : Dealing) → GoodDealing b d → (page : ℕ) → Page (file_of b) page → TreePage d page → page ≡ lock_page (H.size_of b) → ⊥
unfolding fixed_in
unlocked b d g page p t e =
    let lock : ℕ = lock_page (H.size_of b) in
    let h = shape (opened-image b g.passes) in
    let s = h.size_is in
    let fixed-2 : (file_of b).fixed lock ≡ 2 = fixed-field b lock ∙ rw (eq-eqb lock lock refl) refl in
    let second : 2 ≤ lock = lock-past (H.size_of b) 1 (omega (arith, s, h.least)) (omega (arith, s, h.most)) in
    let fixed : Fixed (file_of b) lock = (second, omega (arith, p.1), λ z. omega (arith, fixed-2)) in
    let k : d.kind lock ≡ 8 = (g.good.placed lock fixed).0 ∙ ap (λ k. 6 + k) fixed-2 in
    ⊎_elim (λ x. omega (arith, ap d.kind e, x, k)) (λ x. omega (arith, ap d.kind e, x, k)) t

-- ---- the image with the leaf laid anew differs on one page alone
module _ (b : List ℕ) (d : Dealing) (g : GoodDealing b d) (root page cell : ℕ) (row : ℤ) (s : List ℕ) (R : Settable b d root page cell row s) where
  abbrev size : ℕ
  size = H.size_of b

  abbrev c : List ℕ
  c = relaid b page cell row s

  w : PayloadCell b d page cell
  w = K.w b d g root page cell row s R

  pub same_length : length c ≡ length b
  same_length = K.long b d g root page cell row s R

  usable-in : H.usable_of b ≤ size
  usable-in = let form = shape (opened-image b g.passes) in omega (arith, form.inside, form.usable_is, form.size_is)

  pub other-page : (p : ℕ) → 1 ≤ p → p * size ≤ length b → p ≢ page → part c ((p - 1) * size) size ≡ part b ((p - 1) * size) size
  other-page p low within ne =
      let at : ℕ = (p - 1) * size in
      let e = page-end size p low in
      let lc : length (part c at size) ≡ size = part_length c at size (omega (arith, same_length)) in
      let lb : length (part b at size) ≡ size = part_length b at size (omega arith) in
      ext_get_or 0 (part c at size) (part b at size) (lc ∙ sym lb)
      (λ k h.
      let k' : k < size = omega arith in
      part_at c at size k k'
      ∙ K.rest b d g root page cell row s R (at + k) (⊎_elim
      (λ (m : p < page). let a = pages-apart p page size low m in inl (omega arith))
      (⊎_elim (λ (same : p ≡ page). absurd (ne same))
      (λ (m : page < p). let a = pages-apart page p size w.in_file.0 m in inr (omega (arith, usable-in))))
      (order p page))
      ∙ sym (part_at b at size k k'))

  pub page-inside : page * size ≤ length b
  page-inside =
      let form = shape (opened-image b g.passes) in
      let k : pages_of b * size ≤ length b = subst (λ n. n * size ≤ length b) form.pages-is (subst (λ n. (header_of b).pages * n ≤ length b) form.size_is form.within) in
      let m = page-fits page (pages_of b) size w.in_file.0 (omega (arith, N-field b, w.in_file.1)) in
      let e = page-end size page w.in_file.0 in
      omega arith

-- ---- the commit
module _ (d : Disk) (deal : Dealing) (root : ℕ) (row : ℤ) (page cell long : ℕ) (counter : Counter d deal root row page cell long) (s : List ℕ)
    (header : Accepted (big_of d.log) d.log) (short : length s ≤ long) (reads : reads_of s ≡ true) where
  abbrev sound : Sound d
  sound = counter.sound

  abbrev old : List ℕ
  old = shown d

  abbrev new : List ℕ
  new = relaid old page cell row s

  abbrev unit : ℕ
  unit = size_of d.log

  abbrev n : ℕ
  n = (state_now d).pages

  R : Settable old deal root page cell row s
  R = counter.has.settable s short reads

  abbrev good : GoodDealing old deal
  good = counter.has.good

  in-file : PayloadCell old deal page cell
  in-file = K.w old deal good root page cell row s R

  unit-is : unit ≡ (state_now d).size
  unit-is = sound.sized (big_of d.log) (header)

  named : H.size_of old ≡ unit
  named = counter.names ∙ sym unit-is

  old-length : length old ≡ n * unit
  old-length =
      let ok = succeeds (state_now d) d.log d.image sound.recovers.0 sound.recovers.1 in
      whole_length (state_now d) d.log d.image sound.recovers.0 ok (state-bounds d.log d.image ok.passed) ∙ ap (λ (k : ℕ). n * k) (sym unit-is)

  some_bytes : 1 ≤ unit
  some_bytes =
      let h = shape (opened-image old good.passes) in
      let e = h.size_is in
      let l = h.least in
      let q = named in
      omega arith

  inside : page * unit ≤ n * unit
  inside =
      let i : page * H.size_of old ≤ length old = page-inside old deal good root page cell row s R in
      let j : page * unit ≤ length old = subst (λ (k : ℕ). page * k ≤ length old) named i in
      omega (arith, old-length)

  page-high : page ≤ n
  page-high = le_of_mul-le-mul_right {k = unit} inside some_bytes

  few : n ≤ 2200000
  few =
      let ok = succeeds (state_now d) d.log d.image sound.recovers.0 sound.recovers.1 in
      (state-bounds d.log d.image ok.passed).few

  new-length : length new ≡ n * unit
  new-length = same_length old deal good root page cell row s R ∙ old-length

  abbrev laid : List ℕ
  laid = part new ((page - 1) * unit) unit

  laid-length : length laid ≡ unit
  laid-length = part_length new ((page - 1) * unit) unit (let e = page-end unit page in-file.in_file.0 in let l = inside in let q = new-length in omega arith)

  laid-fits : Fits unit n (page ∷ []) laid
  laid-fits = record { some = omega arith; few = few; low = low; high = high; unlocked = lock; whole = laid-length ∙ omega arith }
    where
      low : (i : ℕ) → i < 1 → 1 ≤ get_or (page ∷ []) i 0
      low zero l = in-file.in_file.0
      low (suc i) l = absurd (omega arith)

      high : (i : ℕ) → i < 1 → get_or (page ∷ []) i 0 ≤ n
      high zero l = page-high
      high (suc i) l = absurd (omega arith)

      lock : (i : ℕ) → i < 1 → get_or (page ∷ []) i 0 ≡ lock_page unit → ⊥
      lock zero l e = unlocked old deal good page in-file.in_file in-file.tree (e ∙ ap lock_page (sym named))
      lock (suc i) l e = absurd (omega arith)

  -- It may be committed,
  pub set-may : May (set_record d row page cell s) d
  set-may = record { header = header; fits = laid-fits; grows = λ p over high ne. absurd (omega arith) }

  -- and what is shown then is the file with the record set:
  pub set-shows : shown (completed (set_record d row page cell s) d) ≡ new
  set-shows = commit-makes n (page ∷ []) laid d new sound set-may (record { long = new-length; given = given; others = others })
    where
      given : (i : ℕ) → i < 1 → part laid (i * unit) unit ≡ part new ((get_or (page ∷ []) i 0 - 1) * unit) unit
      given zero l = rw (zero-mul unit) (take_all unit laid (omega (arith, laid-length)))
      given (suc i) l = absurd (omega arith)

      others : (p : ℕ) → 1 ≤ p → p ≤ n → (Given (page ∷ []) p → ⊥) → (p ≤ n) × (part new ((p - 1) * unit) unit ≡ part old ((p - 1) * unit) unit)
      others p low high none =
          let l : p * unit ≤ length old = rw old-length (mul-le-mul_right unit high) in (
            high,
            subst (λ (k : ℕ). part new ((p - 1) * k) k ≡ part old ((p - 1) * k) k) named
                (other-page old deal good root page cell row s R p low (subst (λ (k : ℕ). p * k ≤ length old) (sym named) l) (λ e. none (0, omega arith, sym e))),
          )

  sets : Re.Sets old new deal page cell s
  sets = relaid_good old deal good root page cell row s R

  -- the row is where it was, and its column holds what the record given says;
  pub set-number : (column : ℕ) → number_in root row column (shown (completed (set_record d row page cell s) d)) ≡ in_record column s
  set-number column =
      ap (number_in root row column) set-shows ∙ ap (in_row column new) (found-again old deal good root page cell row s R) ∙ ap (in_record column) sets.here

  pub old-number : (column : ℕ) → number_in root row column old ≡ in_record column (payload_of old page cell)
  old-number column = ap (in_row column old) (found_before old deal good root page cell row s R)

  pub set-record : payload_of (shown (completed (set_record d row page cell s) d)) page cell ≡ s
  set-record = ap (λ (b : List ℕ). payload_of b page cell) set-shows ∙ sets.here

  -- and the row may be set again, to any record that might have been set.
  size-kept : H.size_of new ≡ H.size_of old
  unfolding H.size_of
  size-kept = ap H.size_for (be-same 2 new old 16 16 (λ i l. K.header old deal good root page cell row s R (16 + i) (omega arith)))

  pub set-has : HasRow new deal root row page cell long
  set-has =
      record {
        good = sets.places.good;
        carries = carries-again old deal good root page cell row s R;
        settable = λ t l r. still old deal good root page cell row s R t (counter.has.settable t l r);
      }

-- ---- the code: `set` on the shown file, with the ledger that its verdict gave, refuses nothing, and page `page` of what it leaves is what is committed; where
-- `log_append`, with the tail of the log, refuses nothing, the bytes that it wrote, put at `at`, complete the commit, and the tail that it left is that of the log then
module _ (d : Disk) (deal : Dealing) (root : ℕ) (row : ℤ) (page cell long : ℕ) (counter : Counter d deal root row page cell long) (s : List ℕ)
    (short : length s ≤ long) (reads : reads_of s ≡ true) (ks : List ℕ) (own : Own (shown d) deal ks root) where
  abbrev after : List ℕ
  after = image_after (shown d) ks root row s

  abbrev page-after : List ℕ
  page-after = part after ((page - 1) * size_of d.log) (size_of d.log)

  pub code-answers : set_of (shown d) ks root row s ≡ record { refusal = 0; found = true; page = page; cell = cell; length = length s }
  code-answers = set-answers (shown d) deal counter.has.good ks root page cell row s own (counter.has.settable s short reads)

  pub code-sets : commit (state_now d).pages (page ∷ []) page-after ≡ set_record d row page cell s
  code-sets =
      ap (λ (b : List ℕ). commit (state_now d).pages (page ∷ []) (part b ((page - 1) * size_of d.log) (size_of d.log)))
      (set-image (shown d) deal counter.has.good ks root page cell row s own (counter.has.settable s short reads))

  pub code-completes : (before : List ℕ) (r : Appended) (tail out : List ℕ) → IsTail before d.log
      → Appends d.log (state_now d).pages (page ∷ []) page-after r tail out
      → May (set_record d row page cell s) d
      × ((completed (set_record d row page cell s) d).log ≡ written_to d.log r out)
      × IsTail tail (completed (set_record d row page cell s) d).log
  code-completes before r tail out is appends =
      subst (λ (x : Deed). May x d × ((completed x d).log ≡ written_to d.log r out) × IsTail tail (completed x d).log) code-sets
      (appended-may d (state_now d).pages (page ∷ []) page-after before r tail out is appends (λ p over high ne. absurd (omega arith)))

-- ==== Along a life
module _ (deal : Dealing) (root : ℕ) (row : ℤ) (column page cell long : ℕ) where
  abbrev Counts : Disk → Type 0
  Counts d = Counter d deal root row page cell long

  abbrev number : List ℕ → ℕ
  number b = number_in root row column b

  -- a disk that shows the same file
  same-counts : (d e : Disk) → Counts d → Sound e → (state_now e).size ≡ (state_now d).size → shown e ≡ shown d → Counts e
  same-counts d e c sound size same =
      record {
        sound = sound;
        names = ap H.size_of same ∙ c.names ∙ sym size;
        has = subst (λ (b : List ℕ). HasRow b deal root row page cell long) (sym same) c.has;
      }

  -- or the one with the record set
  set-counts : (d e : Disk) (c : Counts d) (s : List ℕ) → May (set_record d row page cell s) d → length s ≤ long → reads_of s ≡ true → Sound e
      → (state_now e).size ≡ (state_now d).size → shown e ≡ shown (completed (set_record d row page cell s) d) → Counts e
  set-counts d e c s may l r sound size same =
      let w : shown e ≡ relaid (shown d) page cell row s = same ∙ set-shows d deal root row page cell long c s may.header l r in
      record {
        sound = sound;
        names = ap H.size_of w ∙ size-kept d deal root row page cell long c s may.header l r ∙ c.names ∙ sym size;
        has = subst (λ (b : List ℕ). HasRow b deal root row page cell long) (sym w) (set-has d deal root row page cell long c s may.header l r);
      }

  -- Every deed, completed or cut, leaves a counter, where commits set the row.
  pub deed-counts : (deed : Deed) (d e : Disk) → Counts d → May deed d → Sets row column page cell long deed d → Leaves deed d e → Counts e
  deed-counts (commit n numbers pages) d e c may (s, q, sets) left =
      let may' : May (set_record d row page cell s) d = subst (λ (x : Deed). May x d) q may in
      let w = cut-shows (commit n numbers pages) d e c.sound may left in
      ⊎_elim
      (λ (same : shown e ≡ shown d). same-counts d e c w.0 w.2 same)
      (λ (new : shown e ≡ shown (completed (commit n numbers pages) d)).
      set-counts d e c s may' sets.short sets.reads w.0 w.2 (subst (λ (x : Deed). shown e ≡ shown (completed x d)) q new))
      w.1
  deed-counts checkpoint d e c may sets left =
      let w = cut-shows checkpoint d e c.sound may left in
      same-counts d e c w.0 w.2 (checkpoint-shows d e c.sound may left)
  deed-counts (restart sequence salt1 salt2) d e c may sets left =
      let w = cut-shows (restart sequence salt1 salt2) d e c.sound may left in
      same-counts d e c w.0 w.2 (restart-shows sequence salt1 salt2 d e c.sound may left)
  deed-counts (renew sequence salt1 salt2) d e c may sets left =
      let w = cut-shows (renew sequence salt1 salt2) d e c.sound may left in
      same-counts d e c w.0 w.2 (renew-shows sequence salt1 salt2 d e c.sound may left)

  -- A commit of a record with no lower number does not lower the number.
  pub deed-keeps : (deed : Deed) (d : Disk) → Counts d → May deed d → Sets row column page cell long deed d → Holds number deed d
  deed-keeps (commit n numbers pages) d c may (s, q, sets) =
      let may' : May (set_record d row page cell s) d = subst (λ (x : Deed). May x d) q may in
      let new = set-number d deal root row page cell long c s may'.header sets.short sets.reads column in
      let old = old-number d deal root row page cell long c s may'.header sets.short sets.reads column in
      let l : number (shown d) ≤ number (shown (completed (set_record d row page cell s) d)) = rw (new, old) sets.no_lower in
      subst (λ (x : Deed). number (shown d) ≤ number (shown (completed x d))) (sym q) l
  deed-keeps checkpoint d c may sets = tt
  deed-keeps (restart sequence salt1 salt2) d c may sets = tt
  deed-keeps (renew sequence salt1 salt2) d c may sets = tt

  pub sets-keep : (d : Disk) (events : List Event) → Counts d → Life d events → SetsAll row column page cell long d events → NeverLowers number d events
  unfolding Life SetsAll NeverLowers
  sets-keep d [] c life sets = tt
  sets-keep d (e ∷ rest) c (may, ends, life) (sets, later) =
      let left = ends-left e.done e.deed d e.after c.sound may ends in
      (deed-keeps e.deed d c may sets, sets-keep e.after rest (deed-counts e.deed d e.after c may sets left) life later)

  -- The number in the row's column never falls, wherever the power is cut,
  pub counter-never-falls : (d : Disk) (events : List Event) → Counts d → Life d events → SetsAll row column page cell long d events
      → (i j : ℕ) → i ≤ j → number (shown (disk_at d events i)) ≤ number (shown (disk_at d events j))
  counter-never-falls d events c life sets = never-falls number d events c.sound life (sets-keep d events c life sets)

  -- and a careful user never uses one twice.
  pub counter-once : (d : Disk) (events : List Event) → Counts d → Life d events → SetsAll row column page cell long d events → Careful number d events
      → Rising (used_numbers number d events)
  counter-once d events c life sets careful = no-number-twice number d events c.sound life (sets-keep d events c life sets) careful

  -- The row is there at every moment.
  pub counter-stays : (d : Disk) (events : List Event) → Counts d → Life d events → SetsAll row column page cell long d events → (k : ℕ) → Counts (disk_at d events k)
  unfolding Life SetsAll disk_at
  counter-stays d [] c life sets zero = c
  counter-stays d [] c life sets (suc k) = c
  counter-stays d (e ∷ rest) c life sets zero = c
  counter-stays d (e ∷ rest) c (may, ends, life) (sets, later) (suc k) =
      let left = ends-left e.done e.deed d e.after c.sound may ends in
      counter-stays e.after rest (deed-counts e.deed d e.after c may sets left) life later k

  -- A good file is a file by itself: a checkpoint done, the log may be begun anew.
  pub counter-file : (d : Disk) → Counts d → File (state_now d).size (shown d)
  counter-file d c =
      let b : List ℕ = shown d in
      let ok = succeeds (state_now d) d.log d.image c.sound.recovers.0 c.sound.recovers.1 in
      let bounds = state-bounds d.log d.image ok.passed in
      let o = opened-image b c.has.good.passes in
      let h = opened-headed o in
      let formed : Formed b (H.size_of b) (H.present_of b) = record { passes = h.formed; size_is = refl; present-is = refl } in
      let cut = formed-cut formed in
      let l : length b ≡ (state_now d).pages * (state_now d).size = whole_length (state_now d) d.log d.image c.sound.recovers.0 ok bounds in
      let f : H.present_of b * (state_now d).size ≤ (state_now d).pages * (state_now d).size = subst (λ (k : ℕ). H.present_of b * k ≤ (state_now d).pages * (state_now d).size) c.names (omega (arith, cut.whole)) in
      let p : H.present_of b ≤ (state_now d).pages = le_of_mul-le-mul_right {k = (state_now d).size} f (omega (arith, bounds.least)) in
      let e : H.form_in b ≡ record { refusal = 0; size = H.size_of b; pages = H.present_of b } = sym (passed-form b (H.size_of b) (H.present_of b) refl refl (sym h.formed)) in
      let q : record { refusal = 0; size = H.size_of b; pages = H.present_of b } ≡ H.pages_in b =
      alone-passed b (record { size = H.size_of b; pages = H.present_of b }) (sym e) (omega (arith, bounds.few)) in
      record { passes = sym (ap (λ (x : P.Pages). x.refusal) q); names = sym (ap (λ (x : P.Pages). x.size) q) ∙ c.names }

  pub counter-restarts : (d : Disk) → Counts d → May checkpoint d → MayRestart (completed checkpoint d)
  counter-restarts d c may = restart-behind d c.sound may (counter-file d c)
