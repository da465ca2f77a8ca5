-- A log that is read from a later place, and the slots of a master that is put: for the law `later_start`.
use Rattle.std.proofs.Common.{◌≡◌, ◌≢◌, inl, inr, ⊎_elim, ℕ, ◌+◌, ◌^◌, ◌<◌, ◌≤◌, Bool, true, false, ◌&&◌, ◌||◌, cond, List, [], ◌∷◌, ◌++◌, Option, Some, None, map, length, sum_by, refl, sym, ap, ◌∙◌, subst, arith}
use Rattle.std.specs.Prelude.{is_some, IfSome, IsTrue}
use Rattle.std.proofs.lemmas.List.Folds.{list_any-append}
use Rattle.std.specs.List.{list_any}
use Rattle.std.proofs.lemmas.Bool.{cases_eq}
use Rattle.std.proofs.lemmas.List.{map-append}
use Rattle.sd_base.specs.declared.ids.TxnId.{TxnId}
use Rattle.sd_base.specs.Ids.{same_txn}
use Rattle.sd_base.specs.Twin.{chosen_body}
use Rattle.sd_logrec.specs.declared.record.Record.{Record}
use Rattle.sd_logrec.specs.declared.record.Record.TheVariants as records
use Rattle.sd_logrec.specs.Kept.{Master, Whole, master}
use Rattle.sd_logrec.specs.View.{Rec, Kind, flat}
use Rattle.sd_logrec.specs.View.Kind.{Update, Clr, Commit, End, Plain}
use Rattle.sd_base.specs.Values.{size}
use Rattle.sd_log.specs.Logs.{LogState}
use Rattle.sd_rig.specs.Devices as rig
use Rattle.sd_rig.specs.Puts.{IsFrom, Puts}
use Rattle.sd_chain.specs.Checks.{Follow, IsMaster, IsSlot, Past, StartFits, after_record, is_end_check, open_in, owed, past_of, placed_of, reserve, starts_by}
use Rattle.sd_chain.specs.Images.{Keeps}
use Rattle.sd_chain.specs.Order.{of_txn, speaks}
use Rattle.sd_chain.specs.Records.{Each, ends, stack, stack_from}
use Rattle.sd_chain.specs.Undoing.{Member}
use Rattle.sd_chain.proofs.Lists.{Each-append, Each-back, Each-weaker}
use Rattle.sd_chain.proofs.Stacks.{stack_from-append}
use Rattle.sd_chain.proofs.Members.{sums-agree, apart-open_in, open_in-is, is-open_in}
use Rattle.sd_chain.specs.Logs.{Logs, Outcomes, ReplacesLog, after_records, base_at, kept_logs, owed_with, past_at, records_at, tail_at, tails_of}
use Rattle.sd_chain.specs.Soundly.{HasLsns, LogIsSound, SlotsAreSound}
use Rattle.sd_chain.specs.Starts.{IsClosed, IsLater, IsShorter}
use Rattle.sd_chain.specs.ChecksKept.{LaterKeeps}
use Rattle.sd_chain.proofs.Sums.{sum-one}
use Rattle.sd_chain.proofs.Kept.{flat-records, no-tail}
use Rattle.sd_chain.proofs.Follows.{not-both}
use Rattle.sd_chain.proofs.Epochs.{epoch-later, follow-later}
use Rattle.sd_chain.proofs.Owing.{each-of, sum-same, total}
use Rattle.sd_chain.proofs.Ready.{bare-ready}
use Rattle.sd_chain.proofs.Changed.{changed-soundly, may-less}
use Rattle.sd_chain.proofs.Whose.{stack-none}

-- ---- the slots of a master that is put, as each image has them

slot_from : (gate : ℕ) (body old new : List ℕ) → IsMaster body → IsSlot gate old → IsFrom gate 64 body old new
    → IsSlot gate new
slot_from gate body old new well was from shown = ⊎_elim
    (λ same. subst IsMaster (sym same.1) (was same.0))
    (λ is. subst IsMaster (sym is) well)
    (from shown)

-- they are sound in each image
pub puts-slots : (dev : ℕ) (body : List ℕ) (seen : rig.DeviceImages) (leaves : Outcomes) (img : rig.DeviceImages) → IsMaster body
    → SlotsAreSound (seen dev)
    → Puts dev 0 64 body seen leaves img → SlotsAreSound (img dev)
puts-slots dev body seen leaves img well s f = record {
  differ = f.differ;
  first = slot_from 0 body (seen dev) (img dev) well s.first f.first;
  second = slot_from 65 body (seen dev) (img dev) well s.second f.second;
}

-- ---- what a log owes without its first records

none_any : (t : TxnId) (xs : List Rec) → Each (λ x. of_txn t x ≡ false) xs → list_any (of_txn t) xs ≡ false
none_any t [] a = refl
none_any t (x ∷ xs) a = ap (λ (b : Bool). b || list_any (of_txn t) xs) a.0 ∙ none_any t xs a.1

no_end : (k : Kind) (b : Bool) → (speaks k && b) ≡ false → (ends k && b) ≡ false
no_end Update b e = refl
no_end Clr b e = refl
no_end Commit b e = e
no_end End b e = e
no_end Plain b e = refl

module _ (f : List Rec → ℕ) (gone new : List Rec) (closed : (t : TxnId) → IsClosed gone new t) where
  abbrev all : List Rec
  all = gone ++ new

  named : (u : TxnId) → Each (λ x. of_txn u x ≡ false) gone → list_any (of_txn u) all ≡ list_any (of_txn u) new
  named u a = list_any-append (of_txn u) gone new ∙ ap (λ (b : Bool). b || list_any (of_txn u) new) (none_any u gone a)

  same-stack : (u : TxnId) → Each (λ x. of_txn u x ≡ false) gone → stack u all ≡ stack u new
  same-stack u a = stack_from-append u [] gone new
      ∙ ap (λ (s : List Rec). stack_from u s new) (stack-none u gone (none_any u gone a))

  -- one that the later records leave open has no record in front
  in-new : (u : TxnId) → Member u (open_in new) → Each (λ x. of_txn u x ≡ false) gone
  in-new u m = let o = open_in-is u new m in
      ⊎_elim (λ a. a) (λ r. ⊎_elim (λ shut. absurd (shut o.0))
      (λ c. absurd (not-both (list_any (of_txn u) new) o.1 (none_any u new c.1))) r) (closed u)

  from-new : (u : TxnId) → Member u (open_in new) → Member u (open_in all)
  from-new u m = let o = open_in-is u new m in let a = in-new u m in
      is-open_in u all (Each-append (λ x. (ends x.kind && same_txn x.txn u) ≡ false) gone new
      (Each-weaker (λ x. of_txn u x ≡ false) (λ x. (ends x.kind && same_txn x.txn u) ≡ false)
      (λ x e. no_end x.kind (same_txn x.txn u) e) gone a) o.0) (named u a ∙ o.1)

  to-new : (u : TxnId) → Member u (open_in all) → Member u (open_in new)
  to-new u m = let o = open_in-is u all m in
      let behind = Each-back (λ x. (ends x.kind && same_txn x.txn u) ≡ false) gone new o.0 in
      ⊎_elim (λ a. is-open_in u new behind (sym (named u a) ∙ o.1))
      (λ r. ⊎_elim (λ shut. absurd (shut behind)) (λ c. absurd (c.0 o.0)) r) (closed u)

  -- it owes the same, by any weight
  pub total-later : total f all ≡ total f new
  total-later =
      sums-agree (λ t. f (stack t all)) (open_in all) (open_in new) (apart-open_in all) (apart-open_in new) to-new from-new
      ∙ sum-same (λ t. f (stack t all)) (λ t. f (stack t new)) (open_in new)
      (each-of _ (open_in new) (λ u m. ap f (same-stack u (in-new u m))))

-- ---- the log from a later place

if_any : (o : Option (List ℕ)) (b : Bool) → b ≡ true → IfSome o (λ _. IsTrue b)
if_any None b e = tt
if_any (Some x) b e = e

later-base : (gone : List Record) (l l' : LogState) → IsShorter gone l l' → base_at l ≡ map flat gone ++ base_at l'
later-base gone l l' w = sym (flat-records (placed_of (Whole l.groups l.gate))) ∙ ap (map flat) w.records
    ∙ map-append flat gone (records_at l') ∙ ap (λ (x : List Rec). map flat gone ++ x) (flat-records (placed_of (Whole l'.groups l'.gate)))

-- the master says of them what the former one says: they follow one another as before
again-follow : (j : ℕ) (chosen : Bool) (m m' : Master) (past : Past) (rs : List Record) → m'.epoch ≡ m.epoch → m'.check ≡ m.check
    → Follow j chosen m past rs → Follow j chosen m' past rs
again-follow j chosen m m' past [] epoch check f = tt
again-follow j chosen m m' past (r ∷ rs) epoch check f = (
  f.0,
  f.1,
  again r f.2,
  again-follow j chosen m m' (after_record past r) rs epoch check f.3,
)
  where
    again : (r : Record) → StartFits chosen m past r rs → StartFits chosen m' past r rs
    again (records.Start l e) s = (
      λ is le. let old = s.0 is (subst (λ (n : ℕ). l ≤ n) check le) in record {
        rises = old.rises;
        within = subst (λ (n : ℕ). e ≤ n) (sym epoch) old.within;
        last = λ none. old.last (subst (λ (n : ℕ). list_any (starts_by n) rs ≡ false) check none) ∙ sym epoch;
      },
      λ off. s.1 (⊎_elim (λ no. inl no) (λ lt. inr (subst (λ (n : ℕ). n < l) check lt)) off),
    )
    again (records.Update l txn prev page slot capacity before after) s = tt
    again (records.Clr l txn prev undo_next page slot after) s = tt
    again (records.Commit l txn prev) s = tt
    again (records.End l txn prev) s = tt
    again (records.BeginCheck l) s = tt
    again (records.EndCheck l begin spans recs) s = tt

some-any : (o : Option (List ℕ)) (b : Bool) → is_some o ≡ true → IfSome o (λ _. IsTrue b) → b ≡ true
some-any None b e h = absurd (cc)
some-any (Some x) b e h = h

-- behind the other master the log is sound
pub later-log-sound : (j : ℕ) (was bytes : List ℕ) (gone : List Record) (l l' : LogState) → IsShorter gone l l'
    → IsLater was l l' bytes → LogIsSound j was l → LogIsSound j bytes l'
later-log-sound j was bytes gone l l' short w s =
    let parts = short.records in
    let same = ap reserve (later-base gone l l' short)
    ∙ total-later (λ s. 31 + sum_by (λ x. 47 + size x.before) s) (map flat gone) (base_at l') short.closed in
    let room = s.room in let gate = short.gate in
    ⊎_elim
    (λ e. record {
      ended = if_any (chosen_body 0 64 bytes) (list_any (is_end_check (master bytes).check) (records_at l')) e.ended;
      follow = subst (λ (b : Bool). Follow j b (master bytes) (past_of (master bytes)) (records_at l')) (sym w.chosen)
          (follow-later j (is_some (chosen_body 0 64 was)) (master was) (master bytes) gone (records_at l')
          (subst (Follow j (is_some (chosen_body 0 64 was)) (master was) (past_of (master was))) parts s.follow)
          (e.epoch ∙ ap (λ (rs : List Record). (after_records (past_of (master was)) rs).epoch) parts)
          (subst (λ (rs : List Record). (after_records (past_of (master was)) rs).lsn ≤ (master bytes).check) parts e.check));
      room = omega (arith, gate, same, room);
    })
    (λ a. record {
      ended = if_any (chosen_body 0 64 bytes) (list_any (is_end_check (master bytes).check) (records_at l'))
          (ap (λ (n : ℕ). list_any (is_end_check n) (records_at l')) a.check
          ∙ ap (list_any (is_end_check (master was).check)) a.records
          ∙ some-any (chosen_body 0 64 was) (list_any (is_end_check (master was).check) (records_at l)) a.chosen s.ended);
      follow = subst (λ (b : Bool). Follow j b (master bytes) (past_of (master bytes)) (records_at l')) (a.chosen ∙ sym w.chosen)
          (again-follow j (is_some (chosen_body 0 64 was)) (master was) (master bytes) (past_of (master bytes)) (records_at l') a.epoch a.check
          (subst (λ (n : ℕ). Follow j (is_some (chosen_body 0 64 was)) (master was) (record { lsn = 0; epoch = n; started = false }) (records_at l'))
          (sym a.epoch)
          (subst (Follow j (is_some (chosen_body 0 64 was)) (master was) (past_of (master was))) (sym a.records) s.follow)));
      room = omega (arith, gate, same, room);
    })
    w.says

-- the epoch that the log is in stays
pub later-epoch : (was bytes : List ℕ) (gone : List Record) (l l' : LogState) → IsShorter gone l l'
    → IsLater was l l' bytes → (past_at (master bytes) l').epoch ≡ (past_at (master was) l).epoch
later-epoch was bytes gone l l' short w =
    let same = ap (λ (rs : List Record). (after_records (past_of (master was)) rs).epoch) short.records in
    ⊎_elim
    (λ e. epoch-later (master was) (master bytes) gone (records_at l') (e.epoch ∙ same) ∙ sym same)
    (λ a. ap (λ (n : ℕ). (after_records (record { lsn = 0; epoch = n; started = false }) (records_at l')).epoch) a.epoch
    ∙ ap (λ (rs : List Record). (after_records (past_of (master was)) rs).epoch) a.records)
    w.says

module _ (i : ℕ) (gone : List Record) (logs logs' : Logs) (at : ReplacesLog i (logs' i) logs logs')
    (one : IsShorter gone (logs i) (logs' i)) where
  shorter : (keeps : Keeps)
      → kept_logs (tails_of logs) keeps i ≡ map flat gone ++ kept_logs (tails_of logs') keeps i
  shorter keeps = ap (λ (t : List Record). base_at (logs i) ++ cond (keeps i) (map flat t) []) one.tail
      ∙ no-tail (keeps i) (base_at (logs i)) ∙ later-base gone (logs i) (logs' i) one
      ∙ ap (λ (x : List Rec). map flat gone ++ x)
      (sym (ap (λ (t : List Record). base_at (logs' i) ++ cond (keeps i) (map flat t) []) one.tail'
      ∙ no-tail (keeps i) (base_at (logs' i))))

  bare : (keeps : Keeps) → kept_logs (tails_of logs') keeps i ≡ base_at (logs' i)
  bare keeps = ap (λ (t : List Record). base_at (logs' i) ++ cond (keeps i) (map flat t) []) one.tail'
      ∙ no-tail (keeps i) (base_at (logs' i))

  elsewhere : (keeps : Keeps) (j : ℕ) → j ≢ i → kept_logs (tails_of logs') keeps j ≡ kept_logs (tails_of logs) keeps j
  elsewhere keeps j ne = ap (λ (l : LogState). base_at l ++ cond (keeps j) (tail_at l) []) (at.others j ne)

  owes-same : (keeps : Keeps) → owed_with (tails_of logs') keeps ≡ owed_with (tails_of logs) keeps
  owes-same keeps =
      let sum = sum-one (λ j. owed (kept_logs (tails_of logs') keeps j)) (λ j. owed (kept_logs (tails_of logs) keeps j)) i
      (λ j ne. ap owed (elsewhere keeps j ne)) at.low at.high in
      let here : owed (kept_logs (tails_of logs) keeps i) ≡ owed (kept_logs (tails_of logs') keeps i) =
      ap owed (shorter keeps ∙ ap (λ (x : List Rec). map flat gone ++ x) (bare keeps))
      ∙ total-later (λ s. 1 + length s) (map flat gone) (base_at (logs' i)) one.closed
      ∙ ap owed (sym (bare keeps)) in
      omega (arith, sum, here)

-- after a put of the master that is Ok, and the log's groups before the new place forgotten
pub later-keeps : (leaves leaves' : Outcomes) → LaterKeeps leaves leaves'
later-keeps leaves leaves' i gone logs logs' was left s less at one now =
    changed-soundly i leaves leaves' logs logs' at.low s less at.others
    (λ b l. let w = now b l in
    bare-ready i b (logs' i) one.tail' w.start w.stands w.slots
    (later-log-sound i was b gone (logs i) (logs' i) one w (s.ready i at.low at.high was left).sound))
    (λ keeps.
    let same = owes-same i gone logs logs' at one keeps in
    let weaker : (xs : List Rec) → Each (HasLsns (tails_of logs) keeps) xs → Each (HasLsns (tails_of logs') keeps) xs
    = λ xs a. subst (λ (n : ℕ). Each (λ x. x.lsn + n < 2 ^ 62) xs) (sym same) a in
    record {
      logs = λ j lo hi. ⊎_elim
          (λ e. subst (λ (k : ℕ). Each (HasLsns (tails_of logs') keeps) (kept_logs (tails_of logs') keeps k)) (sym e)
          (weaker (kept_logs (tails_of logs') keeps i)
          (Each-back (HasLsns (tails_of logs) keeps) (map flat gone)
          (kept_logs (tails_of logs') keeps i)
          (subst (Each (HasLsns (tails_of logs) keeps)) (shorter i gone logs logs' at one keeps)
          ((s.lsns keeps).logs i at.low at.high)))))
          (λ ne. weaker (kept_logs (tails_of logs') keeps j)
          (subst (Each (HasLsns (tails_of logs) keeps)) (sym (elsewhere i gone logs logs' at one keeps j ne))
          ((s.lsns keeps).logs j lo hi)))
          (cases_eq j i);
      pages = λ p x m. let h = (s.lsns keeps).pages p x (may-less i leaves leaves' at.low less p x m) in
          omega (arith, h, same);
    })
