-- When a complex is ready again, what is forced, and what a rollback finds: for all calls.
use Rattle.std.proofs.Common.{◌≡◌, ⊎_elim, ℕ, ◌-◌, ◌<◌, ◌≤◌, Bool, true, false, List, [], ◌∷◌, length, get_or, cond, ◌&&◌, refl, sym, ap, ◌∙◌, subst, arith}
use Rattle.std.specs.Prelude.{Option, None, Some, option_and_then, slice_get}
use Rattle.std.proofs.lemmas.List.{length-map, length-reverse}
use Rattle.sd_base.specs.Ids.{same_rid, same_txn}
use Rattle.sd_base.specs.declared.ids.TxnId.{TxnId}
use Rattle.sd_base.specs.declared.ids.Rid.{Rid}
use Rattle.sd_base.specs.declared.place.Mode.{Mode}
use Rattle.sd_base.specs.declared.place.Mode.TheVariants as modes
use Rattle.sd_base.proofs.SameIds.{eq-same, eq-same_rid}
use Rattle.sd_log.specs.Logs.{LogState, forced}
use Rattle.sd_logrec.specs.View.{Rec}
use Rattle.sd_model.specs.Acts.{live}
use Rattle.sd_model.specs.State.{Part, State}
use Rattle.sd_page.specs.Page.{HasRoom, Slot, capacity_at}
use Rattle.sd_reclock.specs.Locks.{raised}
use Rattle.sd_rig.specs.Devices as rig
use Rattle.sd_txn.specs.Transactions.{Transaction, top, txn_at}
use Rattle.sd_txn.specs.declared.state.OpenRec.{OpenRec}
use Rattle.sd_chain.specs.Records.{home, stack}
use Rattle.sd_chain.proofs.Slots.{has-slot, lacks-slot}
use Rattle.sd_chain.specs.Logs.{Outcomes, all_at}
use Rattle.sd_chain.proofs.Kept.{forced-tail}
use Rattle.sd_state.specs.Forcing.{with_forced}
use Rattle.sd_state.specs.Fresh.{IsFresh}
use Rattle.sd_state.specs.Good.{Good}
use Rattle.sd_state.specs.Parts.{Parts, is_loose, log_at, no_log, txns_at}
use Rattle.sd_state.specs.Tables.{IsLive, RowIsLive, RowIsLogged, tells_log}
use Rattle.sd_update.specs.Undoing.{RollsTo}
use Rattle.sd_state.specs.Values.{Pending, open_of, put_of}
use Rattle.sd_state.proofs.EndingLeaves.{rolling-there}
use Rattle.sd_state.proofs.Items.{item-set}
use Rattle.sd_state.proofs.WorkingGood.{working-settled}
use Rattle.sd_one.specs.Ready.{FitsAt, IsReady, MayTakeBack}

-- what makes a complex ready
pub ready : {seen : rig.DeviceImages} {leaves : Outcomes} {c : Parts} {m : State} → c.due ≡ None → Good seen leaves Pending.Idle c m
    → IsReady seen leaves c
ready {m = m} idle good = record { idle = idle; m = m; good = good }

-- a fresh complex has settled logs
pub fresh-settled : (frames i : ℕ) (c : Parts) → IsFresh frames c → i ≡ 1 → is_loose c i ≡ false
fresh-settled frames i c f one = ap (λ (n : ℕ). is_loose c n) one ∙ ap (λ (marks : List Bool). get_or marks 1 true) f.loose

-- a log that is forced has no tail
pub forced-empty : (c new : Parts) (i owes : ℕ) → 1 ≤ i → i ≤ 8 → length c.logs ≡ 8
    → new ≡ with_forced i (forced (log_at c i)) owes c → (log_at new i).tail ≡ []
forced-empty c new i owes low high eight is =
    ap (λ (p : Parts). (log_at p i).tail) is
    ∙ ap (λ (l : LogState). l.tail) (item-set no_log c.logs i (forced (log_at c i)) low high eight) ∙ forced-tail (log_at c i)

-- a lock that is given as exclusive is so
pub lock-given : (t : TxnId) (r : Rid) (had got : Option Mode)
    → got ≡ cond (same_txn t t && same_rid r r) (Some (raised had modes.Excl)) had → got ≡ Some modes.Excl
lock-given t r had got is = is ∙ rw (eq-same t t refl, eq-same_rid r r refl) (ap Some (excl had))
  where
    excl : (had : Option Mode) → raised had modes.Excl ≡ modes.Excl
    excl None = refl
    excl (Some modes.Shared) = refl
    excl (Some modes.Excl) = refl

-- ---- values that fit

pub fits-own : (slots : List Slot) (s own capacity len : ℕ) → Some own ≡ capacity_at slots s → own ≡ capacity → len ≤ capacity
    → FitsAt slots s capacity len
fits-own slots s own capacity len is same le after size_is =
    let h = has-slot slots s own (sym is) in
    record {
      place = omega (arith, h.0);
      found = refl;
      same = λ lt. sym same ∙ h.1;
      room = λ end. absurd (omega (arith, h.0, end));
      within = omega (arith, size_is, le);
    }

pub fits-new : (slots : List Slot) (s capacity len : ℕ) → None ≡ capacity_at slots s → s ≤ length slots → HasRoom slots capacity
    → len ≤ capacity → FitsAt slots s capacity len
fits-new slots s capacity len is place room le after size_is =
    let past = lacks-slot slots s (sym is) in
    record {
      place = place;
      found = refl;
      same = λ lt. absurd (omega (arith, past, lt));
      room = λ end. room;
      within = omega (arith, size_is, le);
    }

-- ---- who rolls back wholly and has a record open has a put that is live

row-of : (o : Option Transaction) (last : OpenRec) → option_and_then top o ≡ Some last
    → (x : Transaction) × (o ≡ Some x) × (top x ≡ Some last)
row-of None last e = absurd (cc)
row-of (Some x) last e = (x, refl, e)

some-open : (stack : List OpenRec) (last : OpenRec) → slice_get stack (length stack - 1) ≡ Some last → 0 < length stack
some-open [] last e = absurd (cc)
some-open (x ∷ xs) last e = omega arith

no-commit : (t : TxnId) → Pending.Idle ≡ Pending.Commits t → ⊥
no-commit t e = absurd (cc)

live-above : (x : Transaction) (t : TxnId) (p : Part) (log : List Rec) → 0 < length x.stack → RowIsLogged (Some x) t log
    → IsLive x t p log → 0 < length (live p.acts)
live-above x t p log some row it = ⊎_elim
    (λ l. let a = ap length l.open_ones in let b = length-reverse x.stack in let c = length-map (stack t log) open_of in
    let d = ap length it.puts in let e = length-map (stack t log) put_of in omega (arith, some, a, b, c, d, e))
    (λ s. let a = ap length s.emptied in absurd (omega (arith, some, a)))
    row

pub rolls-to : (t : TxnId) (seen : rig.DeviceImages) (leaves : Outcomes) (c : Parts) (m : State) → Good seen leaves Pending.Idle c m
    → c.due ≡ None → MayTakeBack t c → RollsTo t None m
rolls-to t seen leaves c m g idle w =
    let i : ℕ = home t in
    let low : 1 ≤ i = w.rolls.numbered.low in
    let high : i ≤ 8 = w.rolls.numbered.high in
    let up = w.rolls.up in
    let settled : is_loose c i ≡ false = working-settled seen leaves Pending.Idle c m i g idle low up in
    let found = row-of (txn_at (txns_at c i) t) w.o w.last in
    let x : Transaction = found.0 in
    let row : RowIsLogged (Some x) t (all_at (log_at c i)) = subst (λ (o : Option Transaction). RowIsLogged o t (all_at (log_at c i)))
    found.1 ((g.told i low high (ap tells_log up) settled).rows t refl) in
    let it : IsLive x t (m.part t) (all_at (log_at c i)) = subst (λ (o : Option Transaction). RowIsLive o t (m.part t) (all_at (log_at c i)))
    found.1 (g.at_work i low high up t refl (no-commit t)) in
    record {
      rolls = rolling-there (txn_at (txns_at c i) t) None _ _ _ w.rolls.state ((g.instances i low high).names t refl);
      above = live-above x t (m.part t) (all_at (log_at c i)) (some-open x.stack w.o found.2) row it;
    }
