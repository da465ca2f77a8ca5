-- The record that ends a checkpoint comes to its log: the complex fits the world on, with the sums behind the event. For `check_end`.
use Rattle.std.proofs.Common.{◌≡◌, ⊎_elim, ℕ, ◌+◌, ◌<◌, ◌≤◌, Bool, true, false, cond, List, [], ◌∷◌, ◌++◌, length, refl, sym, ap, ◌∙◌, subst, arith, eq-eqb}
use Rattle.std.specs.Prelude.{◌^◌, ◌&&◌, Some, eqb, nat_lt}
use Rattle.std.specs.List.{AllByRecursion}
use Rattle.std.proofs.lemmas.Bool.{cases_eq}
use Rattle.std.proofs.lemmas.Bool.Decides.{nat_tests}
use Rattle.sd_base.specs.declared.ids.TxnId.{TxnId}
use Rattle.sd_log.specs.Logs.{LogState, with_record}
use Rattle.sd_logrec.specs.Spelling.{AreRecs, Changed, is_rising, spelling}
use Rattle.sd_logrec.specs.View.{Rec, flat}
use Rattle.sd_logrec.specs.declared.record.Record.{Record}
use Rattle.sd_logrec.proofs.Lengths.{length-spelling}
use Rattle.sd_model.specs.State.{State}
use Rattle.sd_model.specs.declared.event.Event.TheVariants.{CheckEnd}
use Rattle.sd_model.specs.declared.event.Reply.{Reply}
use Rattle.sd_rig.specs.Devices as rig
use Rattle.sd_chain.specs.Checks.{reserve}
use Rattle.sd_chain.specs.Logs.{Outcomes, all_at, next_lsn}
use Rattle.sd_chain.specs.Records.{IsOpen, home}
use Rattle.sd_chain.proofs.Appends.{appended-log}
use Rattle.sd_chain.proofs.Owing.{plain-owes}
use Rattle.sd_state.specs.Good.{Good, TakesCheck}
use Rattle.sd_state.specs.Parts.{Begun, Parts, check_at, is_loose, log_at, no_log, status_at, up_as}
use Rattle.sd_state.specs.Values.{Pending}
use Rattle.sd_state.proofs.Items.{item-kept, item-set}
use Rattle.sd_update.proofs.ChangedRows.{open-more}
use Rattle.sd_update.proofs.SealedCalls.{settled-up}
use Rattle.sd_world.specs.Bounds.{Bounds, bounds_after, is_wait}
use Rattle.sd_world.specs.Serving.{Core}
use Rattle.sd_world.proofs.Sums.{works-four}
use Rattle.sd_fits.specs.Fits.{Fits}
use Rattle.sd_fits.proofs.Sealing.{AreMore, sealed-bounds, sealed-doubts, sealed-pages}
use Rattle.sd_ckpt.specs.Endings.{end_len, end_record, with_end}

-- ---- its bytes

less-by : (a b : ℕ) → nat_lt a b ≡ true → a < b
less-by a b e = grind (arith, nat_tests, e)

-- no more pages rise from this one on than there are
rising-few : (x : Changed) (xs : List Changed) → AllByRecursion (λ (c : Changed). (c.0 < 1024) × (c.1 < 2 ^ 64)) (x ∷ xs)
    → is_rising (λ (c d : Changed). nat_lt c.0 d.0) (x ∷ xs) ≡ true → x.0 + 1 + length xs ≤ 1024
rising-few x [] all rises = let low = all.0.0 in omega (arith, low)
rising-few x (y ∷ ys) all rises =
    let parts = split (nat_lt x.0 y.0) (is_rising (λ (c d : Changed). nat_lt c.0 d.0) (y ∷ ys)) rises in
    let less = less-by x.0 y.0 parts.0 in
    let ih = rising-few y ys all.1 parts.1 in
    omega (arith, less, ih)
  where
    split : (a b : Bool) → (a && b) ≡ true → (a ≡ true) × (b ≡ true)
    split true b e = (refl, e)
    split false b e = absurd (cc)

pages-few : (recs : List Changed) → AreRecs recs → length recs ≤ 1024
pages-few [] are = omega arith
pages-few (x ∷ xs) are = let few = rising-few x xs are.each are.rising in omega (arith, few)

-- a record that ends a checkpoint takes at most 13,909 bytes
pub end-short : (k : Begun) → AreRecs k.recs → length k.spans ≤ 64 → end_len k ≤ 13909
end-short k recs few = let pages = pages-few k.recs recs in omega (arith, few, pages)

-- with a group's head 14,000 at most, and reserves none
end-takes : (log : List Rec) (lsn : ℕ) (k : Begun) → AreRecs k.recs → length k.spans ≤ 64
    → reserve (log ++ flat (end_record lsn k) ∷ []) + length (spelling (end_record lsn k)) + 5 ≤ reserve log + 14000
end-takes log lsn k recs few =
    let same = (plain-owes log (flat (end_record lsn k)) refl).0 in
    let len = length-spelling (end_record lsn k) in
    let short = end-short k recs few in
    omega (arith, same, len, short)

-- the sums behind the event, whatever it answers but a wait
end-more : (b : Bounds) (i : ℕ) (r : Reply) → is_wait r ≡ false → AreMore i 14000 b (bounds_after b (CheckEnd i) r)
end-more b i r works = record {
  slots = λ p. refl;
  least = λ p. refl;
  here = let own = ap {B = ℕ} (λ (e : Bool). cond e 14000 0 + b.reach i) (eq-eqb i i refl) in omega (arith, own);
  reach = λ j. more (cond (eqb i j) 14000 0) (b.reach j);
  lsns = let four = works-four b (CheckEnd i) r works in omega (arith, four);
  masters = λ j. more (cond (eqb i j) 1 0) (b.masters j);
}
  where
    more : (x y : ℕ) → y ≤ x + y
    more x y = omega arith

-- the world with the sums behind the event
abbrev pub counted_core : ℕ → Reply → Core → Core
counted_core i r w = record { scene = w.scene; pages = w.pages; bounds = bounds_after w.bounds (CheckEnd i) r }

-- ---- the complex with the record

module _ (i spare : ℕ) (k : Begun) (seen : rig.DeviceImages) (leaves : Outcomes) (c : Parts) (w : Core) (f : Fits seen leaves c w)
    (low : 1 ≤ i) (high : i ≤ 8) (was : check_at c i ≡ Some k) where
  abbrev m : State
  m = w.scene.state

  abbrev y : Record
  y = end_record (next_lsn (log_at c i) 0) k

  abbrev mid : Parts
  mid = with_end i k spare c

  takes : TakesCheck (status_at c i)
  takes = (f.good.checking i k was).takes

  pub end-settled : is_loose c i ≡ false
  end-settled = settled-up seen leaves Pending.Idle c m i low high f.good f.idle
      (⊎_elim (λ e. ap up_as e) (λ e. ap up_as e) takes)

  pub end-here : log_at mid i ≡ with_record y spare (log_at c i)
  end-here = item-set no_log c.logs i (with_record y spare (log_at c i)) low high f.good.shape.logs

  -- whoever was open is
  pub end-opens : (t : TxnId) → IsOpen t (all_at (log_at c (home t))) → IsOpen t (all_at (log_at mid (home t)))
  end-opens t opens = ⊎_elim
      (λ e. subst (λ (j : ℕ). IsOpen t (all_at (log_at mid j))) (sym e)
      (subst (IsOpen t) (sym (ap all_at end-here ∙ appended-log (log_at c i) y spare))
      (open-more t (all_at (log_at c i)) (flat y) refl (subst (λ (j : ℕ). IsOpen t (all_at (log_at c j))) e opens))))
      (λ ne. subst (λ (l : LogState). IsOpen t (all_at l))
      (sym (item-kept no_log c.logs i (with_record y spare (log_at c i)) low (home t) ne)) opens)
      (cases_eq (home t) i)

  takes-few : reserve (all_at (log_at c i) ++ flat y ∷ []) + length (spelling y) + 5 ≤ reserve (all_at (log_at c i)) + 14000
  takes-few = let spelled = (f.good.checking i k was).spelled in
      end-takes (all_at (log_at c i)) (next_lsn (log_at c i) 0) k spelled.1 spelled.2

  pub end-fits : (r : Reply) → is_wait r ≡ false → Good seen leaves Pending.Idle mid m → Fits seen leaves mid (counted_core i r w)
  end-fits r works g = record {
    good = g;
    idle = f.idle;
    rolling = λ t rolls. end-opens t (f.rolling t rolls);
    waits = f.waits;
    waiting = f.waiting;
    put = f.put;
    pages = sealed-pages i spare 14000 y c.txns c.epochs seen leaves Pending.Idle c m f.good low high end-settled refl refl
        takes-few (λ j lo hi. omega arith) w.pages f.pages;
    bounds = sealed-bounds i spare 14000 y c.txns c.epochs seen leaves Pending.Idle c m f.good low high end-settled refl refl
        takes-few (λ j lo hi. omega arith) w.bounds (bounds_after w.bounds (CheckEnd i) r) (end-more w.bounds i r works) f.bounds;
    doubts = sealed-doubts i spare 14000 y c.txns c.epochs seen leaves Pending.Idle c m f.good low high end-settled refl refl
        takes-few (λ j lo hi. omega arith) m (λ u doubt. refl) f.doubts;
  }
