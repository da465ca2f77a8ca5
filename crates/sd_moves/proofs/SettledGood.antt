-- A log that isn't settled is read again from its device, which a crash leaves as it reads: the complex stays good. For
-- `settle_log`.
use Rattle.std.proofs.Common.{◌≡◌, ◌≢◌, ◌⊎◌, ⊎_elim, ℕ, ◌≤◌, Bool, true, false, cond, List, [], ◌++◌, map, refl, sym, ap, ◌∙◌, subst, arith, eqb, eq-eqb, ne_eqb}
use Rattle.std.specs.Prelude.{None, Option, Some, IfSome}
use Rattle.std.specs.Option.{option_map_or}
use Rattle.std.proofs.lemmas.Bool.{cases_eq}
use Rattle.sd_logrec.specs.Kept.{Reading, kept, master}
use Rattle.sd_log.specs.Logs.{LogState, StandsOn, begun_at}
use Rattle.sd_model.specs.State.{State}
use Rattle.sd_rig.specs.Devices as rig
use Rattle.sd_rig.specs.Devices.{LeavesOnly}
use Rattle.sd_chain.specs.Checks.{Past, past_of, placed_of}
use Rattle.sd_chain.specs.Images.{Keeps, Settled, kept_at}
use Rattle.sd_chain.specs.Logs.{Less, Outcomes, ReplacesLog, after_records, base_at, past_at, tail_at, tails_of, may_of}
use Rattle.sd_chain.specs.Soundly.{IsSoundly}
use Rattle.sd_chain.proofs.Forces.{settled-keeps}
use Rattle.sd_chain.proofs.Kept.{kept-is}
use Rattle.sd_state.specs.Good.{Good, Half, base_of, dir_of}
use Rattle.sd_state.specs.Images.{IsEpochOf, Stands as ImageStands, leaves_by, log_by}
use Rattle.sd_state.specs.Parts.{Begun, Parts, check_at, is_loose, log_at, no_log, other_at, status_at, up_as}
use Rattle.sd_chain.proofs.OneUpdater.{up-settled}
use Rattle.sd_state.specs.Values.{Pending}
use Rattle.sd_state.proofs.Items.{item-kept, item-set}
use Rattle.sd_state.proofs.Standing.{left-stands, no-place, one-place}
use Rattle.sd_moves.specs.Settling.{IsReread, with_reread}
use Rattle.sd_moves.proofs.SettledHalf.{half-settled}

-- where the log of these bytes begins at the other place
abbrev pub begins_at : List ℕ → Option ℕ → Bool
begins_at bytes other = option_map_or (λ (place : ℕ). eqb (master bytes).start place) other false

place-is : (bytes : List ℕ) (other : Option ℕ) (start : ℕ)
    → ((place : ℕ) → other ≡ Some place → ((master bytes).start ≡ place) ⊎ ((master bytes).start ≡ start))
    → IfSome other (λ place. (master bytes).start ≡ cond (begins_at bytes other) place start)
place-is bytes None start either = tt
place-is bytes (Some place) start either = ⊎_elim
    (λ same. same ∙ sym (ap (λ (b : Bool). cond b place start) (eq-eqb (master bytes).start place same)))
    (λ differs. ⊎_elim
    (λ e. absurd (differs e))
    (λ own. own ∙ sym (ap (λ (b : Bool). cond b place start) (ne_eqb (master bytes).start place differs)))
    (either place refl))
    (cases_eq (master bytes).start place)

-- where the logs begin that are in memory, of which log i is on these bytes
abbrev pub was_at : ℕ → List ℕ → Parts → Keeps → Keeps
was_at i bytes c moved = kept_at i (begins_at bytes (other_at c i)) moved

-- What a crash leaves stands for the state, wherever the other logs begin. That of i begins where its master says.
module _ (i : ℕ) (seen : rig.DeviceImages) (leaves : Outcomes) (c found : Parts) (m : State) (low : 1 ≤ i) (high : i ≤ 8)
    (g : Good seen leaves Pending.Idle c m) (was_loose : is_loose c i ≡ true) (idle : c.due ≡ None)
    (only : LeavesOnly (seen i) (leaves i)) (reads : (d : ℕ) → d ≤ 8 → leaves d (seen d)) (read : IsReread i (seen i) c found) where
  -- an instance that is up, or restarting, has a settled log
  not-ready : up_as (status_at c i) ≡ true → ⊥
  not-ready up = let settled = up-settled (may_of (leaves_by c (λ j. false) leaves))
      (base_of seen (leaves_by c (λ j. false) leaves) (log_by c (λ j. false)) c) (dir_of c) (g.half (λ j. false)).coherent idle i low up in
      let clash : true ≡ false = sym was_loose ∙ settled in absurd (cc)

  -- so it has begun no checkpoint
  pub unchecked : check_at c i ≡ None
  unchecked = by (check_at c i) refl
    where
      by : (o : Option Begun) → check_at c i ≡ o → check_at c i ≡ None
      by None e = e
      by (Some k) e = absurd (not-ready (⊎_elim (λ up. ap up_as up) (λ re. ap up_as re) (g.checking i k e).takes))

  abbrev new : Parts
  new = with_reread i found c

  abbrev log' : LogState
  log' = log_at found i

  abbrev was : Keeps → Keeps
  was moved = was_at i (seen i) c moved

  at-here : (moved : Keeps) → was moved i ≡ begins_at (seen i) (other_at c i)
  at-here moved = ap (λ (b : Bool). cond b (begins_at (seen i) (other_at c i)) (moved i)) (eq-eqb i i refl)

  at-else : (moved : Keeps) (j : ℕ) → j ≢ i → was moved j ≡ moved j
  at-else moved j ne = ap (λ (b : Bool). cond b (begins_at (seen i) (other_at c i)) (moved j)) (ne_eqb j i ne)

  pub log-here : log_at new i ≡ log'
  log-here = item-set no_log c.logs i log' low high g.shape.logs

  pub log-else : (j : ℕ) → j ≢ i → log_at new j ≡ log_at c j
  log-else = item-kept no_log c.logs i log' low

  pub other-here : other_at new i ≡ None
  other-here = item-set {A = Option ℕ} None c.others i None low high g.shape.others

  pub other-else : (j : ℕ) → j ≢ i → other_at new j ≡ other_at c j
  other-else = item-kept {A = Option ℕ} None c.others i None low

  pub by-here : (moved : Keeps) → log_by new moved i ≡ log'
  by-here moved = one-place new moved i other-here ∙ log-here

  pub by-else : (moved : Keeps) (j : ℕ) → j ≢ i → log_by new moved j ≡ log_by c (was moved) j
  by-else moved j ne =
      ap (λ (l : LogState). cond (moved j) (option_map_or (λ place. begun_at place l) (other_at new j) l) l) (log-else j ne)
      ∙ ap (λ (o : Option ℕ). cond (moved j) (option_map_or (λ place. begun_at place (log_at c j)) o (log_at c j)) (log_at c j))
      (other-else j ne)
      ∙ ap (λ (b : Bool). cond b (option_map_or (λ place. begun_at place (log_at c j)) (other_at c j) (log_at c j)) (log_at c j))
      (sym (at-else moved j ne))

  -- of log i the device may have been left so
  begins : (moved : Keeps) → IfSome (other_at c i) (λ place. (master (seen i)).start ≡ cond (was moved i) place (log_at c i).start)
  begins moved = subst
      (λ (b : Bool). IfSome (other_at c i) (λ place. (master (seen i)).start ≡ cond b place (log_at c i).start))
      (sym (at-here moved))
      (place-is (seen i) (other_at c i) (log_at c i).start (λ place e. g.places i place e (seen i) (reads i high)))

  pub could : (moved : Keeps) → leaves_by c (was moved) leaves i (seen i)
  could moved = (reads i high, begins moved)

  -- as much may be left
  abbrev is-placed : Keeps → ℕ → List ℕ → Type 0
  is-placed moved d bytes = IfSome (other_at c d) (λ place. (master bytes).start ≡ cond (was moved d) place (log_at c d).start)

  less-else : (moved : Keeps) (d : ℕ) (bytes : List ℕ) → leaves_by new moved leaves d bytes → d ≢ i → is-placed moved d bytes
  less-else moved d bytes left ne = subst
      (λ (b : Bool). IfSome (other_at c d) (λ place. (master bytes).start ≡ cond b place (log_at c d).start)) (sym (at-else moved d ne))
      (subst (λ (o : Option ℕ). IfSome o (λ place. (master bytes).start ≡ cond (moved d) place (log_at c d).start)) (other-else d ne)
      (subst (λ (l : LogState). IfSome (other_at new d) (λ place. (master bytes).start ≡ cond (moved d) place l.start)) (log-else d ne)
      left.1))

  pub less : (moved : Keeps) → Less (leaves_by c (was moved) leaves) (leaves_by new moved leaves)
  less moved d bytes left = (
    left.0,
    ⊎_elim
        (λ e. subst (λ (k : ℕ). is-placed moved k bytes) (sym e)
        (subst (is-placed moved i) (sym ((only bytes).0 (subst (λ (k : ℕ). leaves k bytes) e left.0))) (begins moved)))
        (λ ne. less-else moved d bytes left ne)
        (cases_eq d i),
  )

  stands-here : ImageStands m Pending.Idle seen
  stands-here = left-stands leaves seen seen Pending.Idle c m g reads

  pub log-kept : after_records (past_of (master (seen i))) (map (λ r. r.1) (placed_of (kept (seen i))))
      ≡ past_at (master (seen i)) log'
  log-kept = ap (λ (r : Reading). after_records (past_of (master (seen i))) (map (λ r. r.1) (placed_of r)))
      (kept-is log' (seen i) (sym read.log.start) read.log.stands)

  module _ (moved : Keeps) where
    h : Half seen (leaves_by c (was moved) leaves) (log_by c (was moved)) Pending.Idle c m
    h = g.half (was moved)

    only-now : LeavesOnly (seen i) (leaves_by new moved leaves i)
    only-now bytes = (
      λ l. (only bytes).0 l.0,
      λ e. (
        (only bytes).1 e,
        no-place (other_at new i) (λ place. (master bytes).start ≡ cond (moved i) place (log_at new i).start) other-here,
      ),
    )

    replaced : ReplacesLog i (log_by new moved i) (log_by c (was moved)) (log_by new moved)
    replaced = record { low = low; high = high; here = refl; others = by-else moved }

    -- the tail is on the device, or it isn't
    sound : IsSoundly (leaves_by new moved leaves) (log_by new moved)
        × ((kept : Bool) × Settled i kept (tails_of (log_by c (was moved))) (tails_of (log_by new moved)))
    sound = settled-keeps (leaves_by c (was moved) leaves) (leaves_by new moved leaves) i (log_by c (was moved))
        (log_by new moved) (seen i) h.soundly (λ d ne bytes l. less moved d bytes l) (could moved) only-now replaced
        (subst (λ (l : LogState). StandsOn l (seen i)) (sym (by-here moved)) read.log.stands)
        (ap (λ (l : LogState). l.start) (by-here moved) ∙ read.log.start ∙ (h.soundly.ready i low high (seen i) (could moved)).start)
        (ap (λ (l : LogState). l.tail) (by-here moved) ∙ read.log.tail)

    epoch : (bytes : List ℕ) → leaves_by new moved leaves i bytes
        → IsEpochOf m Pending.Idle i (past_at (master bytes) (log_by new moved i)).epoch
    epoch bytes left = subst (λ (b : List ℕ). IsEpochOf m Pending.Idle i (past_at (master b) (log_by new moved i)).epoch)
        (sym ((only bytes).0 left.0))
        (subst (λ (l : LogState). IsEpochOf m Pending.Idle i (past_at (master (seen i)) l).epoch) (sym (by-here moved))
        (subst (λ (p : Past). IsEpochOf m Pending.Idle i p.epoch) log-kept (stands-here.epochs i low high)))

    pub half-there : Half seen (leaves_by new moved leaves) (log_by new moved) Pending.Idle new m
    half-there = half-settled i sound.1.0 seen (leaves_by c (was moved) leaves) (leaves_by new moved leaves)
        (log_by c (was moved)) (log_by new moved) c found m low high h was_loose idle g.shape.loose (less moved) could-disk
        sound.0 sound.1.1 (ap (λ (l : LogState). l.tail) (by-here moved) ∙ read.log.tail) (by-else moved) epoch unchecked
      where
        could-disk : leaves_by new moved leaves 0 (seen 0)
        could-disk = (reads 0 (omega arith), tt)

    -- whether the tail is on the device
    pub half-kept : Bool
    half-kept = sound.1.0

    pub settled-tails : Settled i half-kept (tails_of (log_by c (was moved))) (tails_of (log_by new moved))
    unfolding half-kept
    settled-tails = sound.1.1

    -- the records that are read: those that were in memory, with the tail or without
    pub base-read : base_at log' ≡ base_at (log_by c (was moved) i) ++ cond half-kept (tail_at (log_by c (was moved) i)) []
    unfolding half-kept
    base-read = ap base_at (sym (by-here moved)) ∙ sound.1.1.base
