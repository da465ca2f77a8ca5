-- A record is appended to the tail of a log that stands on its device without it: the log stays sound, forced or not.
use Rattle.std.proofs.Common.{◌≡◌, ◌≢◌, inl, ⊎_elim, ℕ, ◌+◌, ◌^◌, ◌<◌, ◌≤◌, Bool, true, false, ◌||◌, cond, List, [], ◌∷◌, ◌++◌, Option, Some, None, length, refl, sym, ap, ◌∙◌, subst, arith, append_assoc}
use Rattle.std.specs.Prelude.{IsTrue, IfSome, is_some}
use Rattle.std.specs.List.{list_any}
use Rattle.std.proofs.lemmas.Bool.{cases_Bool, cases_eq}
use Rattle.std.proofs.lemmas.List.{map-append, length-append}
use Rattle.std.proofs.lemmas.List.Folds.{list_any-append}
use Rattle.sd_base.specs.Twin.{chosen_body}
use Rattle.sd_logrec.specs.declared.record.Record.{Record}
use Rattle.sd_logrec.specs.declared.record.Record.TheVariants as records
use Rattle.sd_logrec.specs.Kept.{Master, master, spelled}
use Rattle.sd_logrec.specs.Spelling.{spelling}
use Rattle.sd_logrec.specs.View.{Rec, flat}
use Rattle.sd_page.specs.Page.{Page}
use Rattle.sd_log.specs.Logs.{LogState, forced, forced_with, needed, tail_len, with_record}
use Rattle.sd_log.proofs.Parted.{spelled-more}
use Rattle.sd_chain.specs.Checks.{Follow, Past, StartFits, is_end_check, lsn_of, owed, past_of, reserve}
use Rattle.sd_chain.specs.Records.{Each}
use Rattle.sd_chain.specs.Images.{Keeps}
use Rattle.sd_chain.proofs.Lists.{Each-append, Each-weaker}
use Rattle.sd_chain.specs.Logs.{IsSettled, Logs, Outcomes, ReplacesLog, all_at, base_at, kept_logs, may_of, owed_with, past_at, records_at, tail_at, tails_of}
use Rattle.sd_chain.specs.Soundly.{IsReady, IsSoundly, LogIsSound, LsnsFit}
use Rattle.sd_chain.specs.Appends.{IsNextEpoch, MayBeNext}
use Rattle.sd_chain.proofs.Sums.{sum-one}
use Rattle.sd_chain.proofs.Kept.{forced-base, forced-records}
use Rattle.sd_chain.proofs.Follows.{check-below, follow-push, start-fits}
use Rattle.sd_chain.proofs.Ready.{sound-parts}
use Rattle.sd_chain.proofs.Changed.{changed-soundly, lsns-same}

-- ---- the log with the record

-- its forced records end with the record
pub appended-records : (l : LogState) (y : Record) (spare : ℕ)
    → records_at (forced (with_record y spare l)) ≡ records_at (forced l) ++ y ∷ []
appended-records l y spare =
    forced-records (with_record y spare l) ∙ sym (append_assoc (records_at l) l.tail (y ∷ []))
    ∙ ap (λ (rs : List Record). rs ++ y ∷ []) (sym (forced-records l))

-- and so do all its records
pub appended-log : (l : LogState) (y : Record) (spare : ℕ)
    → base_at l ++ tail_at (with_record y spare l) ≡ all_at l ++ flat y ∷ []
appended-log l y spare = ap (λ (t : List Rec). base_at l ++ t) (map-append flat l.tail (y ∷ []))
    ∙ sym (append_assoc (base_at l) (tail_at l) (flat y ∷ []))

pushed_gate : (l : LogState) (xs : List Record) (y : Record) → (forced_with l (xs ++ y ∷ [])).gate ≡ l.gate + 5 + tail_len l
pushed_gate l [] y = refl
pushed_gate l (x ∷ xs) y = refl

-- ---- the checks of it

next-fits : (inst : ℕ) (chosen : Bool) (m : Master) (past : Past) (y : Record) → (chosen ≡ true → m.check < lsn_of y)
    → IsNextEpoch past y → StartFits chosen m past y []
next-fits inst chosen m past (records.Start l epoch) low next = start-fits inst chosen m past l epoch low next
next-fits inst chosen m past (records.Update l txn prev page slot capacity before after) low next = tt
next-fits inst chosen m past (records.Clr l txn prev undo_next page slot after) low next = tt
next-fits inst chosen m past (records.Commit l txn prev) low next = tt
next-fits inst chosen m past (records.End l txn prev) low next = tt
next-fits inst chosen m past (records.BeginCheck l) low next = tt
next-fits inst chosen m past (records.EndCheck l begin spans recs) low next = tt

or_true : (a b : Bool) → IsTrue a → IsTrue (a || b)
or_true true b h = h
or_true false b h = absurd (cc)

if_longer : (o : Option (List ℕ)) (test : Record → Bool) (xs ys : List Record) → IfSome o (λ _. IsTrue (list_any test xs))
    → IfSome o (λ _. IsTrue (list_any test (xs ++ ys)))
if_longer None test xs ys h = h
if_longer (Some b) test xs ys h =
    subst IsTrue (sym (list_any-append test xs ys)) (or_true (list_any test xs) (list_any test ys) h)

if_chosen : (o : Option (List ℕ)) (b : Bool) → IfSome o (λ _. IsTrue b) → is_some o ≡ true → b ≡ true
if_chosen None b h e = absurd (cc)
if_chosen (Some x) b h e = h

-- with the tail it is sound, if the record may come and there is room
pub appended-log-sound : (j : ℕ) (bytes : List ℕ) (l : LogState) (y : Record) (spare : ℕ) → LogIsSound j bytes (forced l)
    → MayBeNext j (past_at (master bytes) (forced l)) y
    → needed l (length (spelling y)) (reserve (all_at l ++ flat y ∷ [])) ≤ 1048576
    → LogIsSound j bytes (forced (with_record y spare l))
appended-log-sound j bytes l y spare s next room =
    let chosen : Bool = is_some (chosen_body 0 64 bytes) in
    let m : Master = master bytes in
    let same = appended-records l y spare in
    let gate = pushed_gate (with_record y spare l) l.tail y in
    let len : tail_len (with_record y spare l) ≡ tail_len l + length (spelling y) = ap length (spelled-more l.tail y)
    ∙ length-append (spelled l.tail) (spelling y) in
    let owes : reserve (base_at (forced (with_record y spare l))) ≡ reserve (all_at l ++ flat y ∷ []) =
    ap reserve (forced-base (with_record y spare l) ∙ appended-log l y spare) in
    record {
      ended = subst (λ (rs : List Record). IfSome (chosen_body 0 64 bytes) (λ _. IsTrue (list_any (is_end_check m.check) rs)))
          (sym same)
          (if_longer (chosen_body 0 64 bytes) (is_end_check m.check) (records_at (forced l)) (y ∷ []) s.ended);
      follow = subst (Follow j chosen m (past_of m)) (sym same)
          (follow-push j chosen m (past_of m) (records_at (forced l)) y s.follow next.rises next.own
          (next-fits j chosen m (past_at m (forced l)) y
          (λ is. let low = check-below j chosen m (past_of m) (records_at (forced l)) m.check s.follow
          (if_chosen (chosen_body 0 64 bytes) (list_any (is_end_check m.check) (records_at (forced l))) s.ended is) in
          let up = next.rises in omega (arith, low, up))
          next.epoch));
      room = omega (arith, gate, len, owes, room);
    }

-- ---- the LSNs of it

module _ (i : ℕ) (logs logs' : Logs) (y : Record) (spare : ℕ)
    (at : ReplacesLog i (with_record y spare (logs i)) logs logs') (keeps : Keeps) where
  -- the other logs, with the tails that are kept
  pub kept-elsewhere : (j : ℕ) → j ≢ i → kept_logs (tails_of logs') keeps j ≡ kept_logs (tails_of logs) keeps j
  kept-elsewhere j ne = ap (λ (l : LogState). base_at l ++ cond (keeps j) (tail_at l) []) (at.others j ne)

  -- a cut without the tail of this log
  pub kept-without : keeps i ≡ false → (j : ℕ) → kept_logs (tails_of logs') keeps j ≡ kept_logs (tails_of logs) keeps j
  kept-without none j = ⊎_elim
      (λ e. subst (λ (k : ℕ). kept_logs (tails_of logs') keeps k ≡ kept_logs (tails_of logs) keeps k) (sym e)
      (ap (λ (l : LogState). base_at l ++ cond (keeps i) (tail_at l) []) at.here
      ∙ ap (λ (b : Bool). base_at (logs i) ++ cond b (tail_at (with_record y spare (logs i))) []) none
      ∙ ap (λ (b : Bool). base_at (logs i) ++ cond b (tail_at (logs i)) []) (sym none)))
      (λ ne. kept-elsewhere j ne)
      (cases_eq j i)

  -- this log in a cut with its tail, before
  pub kept-old : keeps i ≡ true → kept_logs (tails_of logs) keeps i ≡ all_at (logs i)
  kept-old is = ap (λ (b : Bool). base_at (logs i) ++ cond b (tail_at (logs i)) []) is

  -- and with the record
  pub kept-with : keeps i ≡ true → kept_logs (tails_of logs') keeps i ≡ all_at (logs i) ++ flat y ∷ []
  kept-with is = ap (λ (l : LogState). base_at l ++ cond (keeps i) (tail_at l) []) at.here
      ∙ ap (λ (b : Bool). base_at (logs i) ++ cond b (tail_at (with_record y spare (logs i))) []) is
      ∙ appended-log (logs i) y spare

  -- what is owed, by what this log owes
  pub owed-moves : keeps i ≡ true
      → owed_with (tails_of logs') keeps + owed (all_at (logs i)) ≡ owed_with (tails_of logs) keeps + owed
      (all_at (logs i) ++ flat y ∷ [])
  owed-moves is =
      let sum = sum-one (λ j. owed (kept_logs (tails_of logs') keeps j)) (λ j. owed (kept_logs (tails_of logs) keeps j)) i
      (λ j ne. ap owed (kept-elsewhere j ne)) at.low at.high in
      let a = ap owed (kept-old is) in
      let b = ap owed (kept-with is) in
      omega (arith, sum, a, b)

  -- a cut without the tail has the LSNs that it had
  pub without-lsns : (may : ℕ → Page → Type 0) → keeps i ≡ false → LsnsFit (tails_of logs) may keeps
      → LsnsFit (tails_of logs') may keeps
  without-lsns may none fit =
      lsns-same (tails_of logs) (tails_of logs') may may keeps keeps (kept-without none) (λ p x m. m) fit

  -- where no more is owed than before
  pub with-lsns : (may : ℕ → Page → Type 0) → keeps i ≡ true
      → owed_with (tails_of logs') keeps ≤ owed_with (tails_of logs) keeps
      → lsn_of y + owed_with (tails_of logs') keeps < 2 ^ 62
      → LsnsFit (tails_of logs) may keeps → LsnsFit (tails_of logs') may keeps
  with-lsns may is less last fit = record {
    logs = λ j lo hi. ⊎_elim
        (λ e. subst (λ (k : ℕ). Each new (kept_logs (tails_of logs') keeps k)) (sym e)
        (subst (Each new) (sym (kept-with is)) (Each-append new (all_at (logs i)) (flat y ∷ [])
        (Each-weaker old new (λ x h. omega (arith, h, less)) (all_at (logs i))
        (subst (Each old) (kept-old is) (fit.logs i at.low at.high))) (last, tt))))
        (λ ne. subst (Each new) (sym (kept-elsewhere j ne))
        (Each-weaker old new (λ x h. omega (arith, h, less)) (kept_logs (tails_of logs) keeps j) (fit.logs j lo hi)))
        (cases_eq j i);
    pages = λ p x m. let h = fit.pages p x m in omega (arith, h, less);
  }
    where
      old : Rec → Type 0
      old x = x.lsn + owed_with (tails_of logs) keeps < 2 ^ 62

      new : Rec → Type 0
      new x = x.lsn + owed_with (tails_of logs') keeps < 2 ^ 62

-- ---- an append keeps what is sound

module _ (i : ℕ) (leaves : Outcomes) (logs logs' : Logs) (y : Record) (spare : ℕ) (s : IsSoundly leaves logs)
    (at : ReplacesLog i (with_record y spare (logs i)) logs logs') (settled : IsSettled i leaves logs)
    (next : (bytes : List ℕ) → leaves i bytes → MayBeNext i (past_at (master bytes) (forced (logs i))) y) where
  -- with room, and LSNs for all that is owed where the tail is kept
  pub append-soundly : needed (logs i) (length (spelling y)) (reserve (all_at (logs i) ++ flat y ∷ [])) ≤ 1048576
      → ((keeps : Keeps) → keeps i ≡ true → LsnsFit (tails_of logs') (may_of leaves) keeps) → IsSoundly leaves logs'
  append-soundly room fit = changed-soundly i leaves leaves logs logs' at.low s (λ d ne b l. l) at.others
      (λ b l. let r = s.ready i at.low at.high b l in subst (IsReady i b) (sym at.here) (record {
        start = r.start;
        either = inl (settled b l);
        slots = r.slots;
        sound = sound-parts i b (logs i) (with_record y spare (logs i)) refl refl r.sound;
        sound_forced = appended-log-sound i b (logs i) y spare r.sound_forced (next b l) room;
      }))
      (λ keeps. ⊎_elim (λ is. fit keeps is)
      (λ none. without-lsns i logs logs' y spare at keeps (may_of leaves) none (s.lsns keeps))
      (cases_Bool (keeps i)))
