-- Versions, LSNs and what is owed behind a fall, told by what was before: for those who keep sums of them.
use Rattle.std.proofs.Common.{◌≡◌, ◌≢◌, ◌⊎◌, inl, inr, ⊎_elim, ℕ, zero, suc, ◌-◌, ◌^◌, ◌≤◌, Bool, true, false, cond, ◌&&◌, List, [], ◌∷◌, ◌++◌, refl, sym, ap, ap₂, ◌∙◌, subst, arith, ne_eqb}
use Rattle.std.specs.Prelude.{Option, None, Some, is_none, is_some, max, min, slice_set}
use Rattle.std.specs.Option.{option_map_or}
use Rattle.std.proofs.lemmas.Bool.{cases_Bool, cases_eq}
use mathlib.Core.Path.{fun_ext}
use Rattle.sd_base.specs.Twin.{chosen_body}
use Rattle.sd_base.specs.declared.place.Status.{Status}
use Rattle.sd_base.specs.declared.place.Status.TheVariants as S
use Rattle.sd_logrec.specs.Kept.{Master, master}
use Rattle.sd_logrec.specs.View.{Rec}
use Rattle.sd_logrec.specs.declared.record.Record.{Record}
use Rattle.sd_log.specs.Logs.{LogState, forced, has_tail, last_lsn, scanned, without_tail, begun_at}
use Rattle.sd_model.specs.State.{State}
use Rattle.sd_page.specs.Page.{Page}
use Rattle.sd_rig.specs.Devices as rig
use Rattle.sd_txn.specs.Owing.{owed_of}
use Rattle.sd_txn.specs.Transactions.{Transactions}
use Rattle.sd_chain.specs.Checks.{Follow, Past, after_record, past_of}
use Rattle.sd_chain.specs.Storage.{newest}
use Rattle.sd_chain.specs.Images.{Keeps, kept_at}
use Rattle.sd_chain.specs.Named.{version_of}
use Rattle.sd_chain.specs.Logs.{Outcomes, after_records, past_at, records_at, tails_of}
use Rattle.sd_chain.specs.Soundly.{LogIsSound}
use Rattle.sd_chain.proofs.Follows.{lsn-rises}
use Rattle.sd_chain.proofs.Kept.{forced-records}
use Rattle.sd_chain.proofs.Lsns.{last-is}
use Rattle.sd_state.specs.Forcing.{owed_as, owed_either}
use Rattle.sd_state.specs.Good.{Good}
use Rattle.sd_state.specs.Images.{leaves_by, log_by}
use Rattle.sd_state.specs.Parts.{Parts, is_loose, log_at, no_log, no_txns, other_at, owed_at, status_at, txns_at}
use Rattle.sd_state.specs.Sums.{great_of, most_to, owed_in_all, owes_most, sum_to}
use Rattle.sd_state.specs.Tables.{tells_log}
use Rattle.sd_state.specs.Values.{Pending}
use Rattle.sd_state.proofs.Items.{item-kept, item-set}
use Rattle.sd_state.proofs.Standing.{no-place, one-place}
use Rattle.sd_moves.specs.Falling.{IsFallen, falls_at, logs_by, owed_dropped, owed_unsettled, unsettles_at, with_fallen}
use Rattle.sd_moves.proofs.FallDropped.{kept-all}
use Rattle.sd_moves.proofs.FallFinal.{when-dropped}
use Rattle.sd_moves.proofs.FallStatus.{falls-itself}

-- ---- sums

pub sum-less : (f g : ℕ → ℕ) (n : ℕ) → ((j : ℕ) → 1 ≤ j → j ≤ n → f j ≤ g j) → sum_to f n ≤ sum_to g n
sum-less f g zero less = omega arith
sum-less f g (suc n) less =
    let rest = sum-less f g n (λ j lo hi. less j lo (omega (arith, hi))) in
    let here = less (suc n) (omega arith) (omega arith) in omega (arith, rest, here)

pub most-less : (f g : ℕ → ℕ) (n : ℕ) → ((j : ℕ) → 1 ≤ j → j ≤ n → f j ≤ g j) → most_to f n ≤ most_to g n
most-less f g zero less = omega arith
most-less f g (suc n) less =
    let rest = most-less f g n (λ j lo hi. less j lo (omega (arith, hi))) in
    let here = less (suc n) (omega arith) (omega arith) in omega (arith, rest, here)

-- ---- the last LSN of a log without its tail

front-lsn : (inst : ℕ) (chosen : Bool) (m : Master) (xs ys : List Record) (past : Past) → Follow inst chosen m past (xs ++ ys)
    → (after_records past xs).lsn ≤ (after_records past (xs ++ ys)).lsn
front-lsn inst chosen m [] ys past f = lsn-rises inst chosen m past ys f
front-lsn inst chosen m (x ∷ xs) ys past f = front-lsn inst chosen m xs ys (after_record past x) f.3

pub last-without : (j : ℕ) (bytes : List ℕ) (l : LogState) → LogIsSound j bytes (forced l)
    → last_lsn (scanned (without_tail l)) ≤ last_lsn (scanned l)
last-without j bytes l s =
    let place : Master = master bytes in
    let follow : Follow j (is_some (chosen_body 0 64 bytes)) place (past_of place) (records_at l ++ l.tail) =
    subst (Follow j (is_some (chosen_body 0 64 bytes)) place (past_of place)) (forced-records l) s.follow in
    let rises = front-lsn j (is_some (chosen_body 0 64 bytes)) place (records_at l) l.tail (past_of place) follow in
    let front : (past_at place l).lsn ≡ last_lsn (scanned (without_tail l)) = last-is place (without_tail l) in
    let whole : (past_at place (forced l)).lsn ≡ last_lsn (scanned l) = last-is place l in
    let same : (past_at place (forced l)).lsn ≡ (after_records (past_of place) (records_at l ++ l.tail)).lsn =
    ap (λ (rs : List Record). (after_records (past_of place) rs).lsn) (forced-records l) in
    omega (arith, rises, front, whole, same)

-- ---- what one log owes at most

-- which tails are kept, where that of log i may be dropped
abbrev pub kept_by : ℕ → Option ℕ → Keeps → Keeps
kept_by i None keeps = keeps
kept_by i (Some owes) keeps = kept_at i false keeps

pub told-most : (s : Status) (told was : ℕ) → max was (owed_as s (min told (2 ^ 64 - 1)) was) ≤ cond (tells_log s) (max was told) was
told-most S.Up told was = omega arith
told-most S.Down told was = omega arith
told-most (S.Recovering by) told was = omega arith
told-most S.Clean told was = omega arith
told-most S.Restarting told was = omega arith
told-most S.Closed told was = omega arith

at-least : (b : Bool) (told was : ℕ) → was ≤ cond b (max was told) was
at-least true told was = omega arith
at-least false told was = omega arith

unsettled-most : (c : Parts) (j : ℕ) → owed_unsettled c j ≤ owes_most c j
unsettled-most c j = by (is_loose c j)
  where
    by : (b : Bool) → cond b (owed_at c j) (owed_either c j)
        ≤ cond b (owed_at c j) (cond (tells_log (status_at c j)) (max (owed_at c j) (owed_of (txns_at c j))) (owed_at c j))
    by true = omega arith
    by false = told-most (status_at c j) (owed_of (txns_at c j)) (owed_at c j)

module _ (i : ℕ) (seen : rig.DeviceImages) (leaves : Outcomes) (pend : Pending) (c new : Parts) (m : State) (low : 1 ≤ i) (high : i ≤ 8)
    (g : Good seen leaves pend c m) (parts : new ≡ with_fallen i new c) (f : IsFallen i c new) where
  abbrev o : Option ℕ
  o = owed_dropped i c

  logs-are : new.logs ≡ logs_by i o c
  logs-are = ap (λ (p : Parts). p.logs) parts

  others-are : (j : ℕ) → other_at new j ≡ other_at c j
  others-are j = ap (λ (p : Parts). other_at p j) parts

  -- a log is as before, or it is i's, is settled, and has no tail any more
  pub fallen-log : (j : ℕ) → (log_at new j ≡ log_at c j)
      ⊎ ((j ≡ i) × (is_loose c i ≡ false) × (log_at new j ≡ without_tail (log_at c i)))
  fallen-log j = by o refl logs-are
    where
      by : (z : Option ℕ) → o ≡ z → new.logs ≡ logs_by i z c → (log_at new j ≡ log_at c j)
          ⊎ ((j ≡ i) × (is_loose c i ≡ false) × (log_at new j ≡ without_tail (log_at c i)))
      by None e is = inl (ap (λ (ls : List LogState). log_at (record c { logs = ls }) j) is)
      by (Some owes) e is = let at = ap (λ (ls : List LogState). log_at (record c { logs = ls }) j) is in ⊎_elim
          (λ same. inr (
            same,
            (when-dropped i owes c e).0,
            at ∙ subst (λ (k : ℕ). log_at (record c { logs = slice_set c.logs (i - 1) (without_tail (log_at c i)) }) k
                ≡ without_tail (log_at c i)) (sym same) (item-set no_log c.logs i (without_tail (log_at c i)) low high g.shape.logs),
          ))
          (λ ne. inl (at ∙ item-kept no_log c.logs i (without_tail (log_at c i)) low j ne))
          (cases_eq j i)

  -- the greatest LSN doesn't rise
  pub fallen-great : great_of new ≤ great_of c
  fallen-great =
      let less = most-less (λ j. last_lsn (scanned (log_at new j))) (λ j. last_lsn (scanned (log_at c j))) 8 last-less in
      let same = ap (λ (p : Parts). p.disk_lsn) parts in omega (arith, less, same)
    where
      last-less : (j : ℕ) → 1 ≤ j → j ≤ 8 → last_lsn (scanned (log_at new j)) ≤ last_lsn (scanned (log_at c j))
      last-less j lo hi = ⊎_elim
          (λ same. let e = ap (λ (l : LogState). last_lsn (scanned l)) same in omega (arith, e))
          (λ w.
          let at = g.settled i low high w.1 in
          let left : leaves_by c (λ k. false) leaves i (seen i) = ((at.only (seen i)).1 refl, no-place _ _ at.one_place) in
          let sound = ((g.half (λ k. false)).soundly.ready i low high (seen i) left).sound_forced in
          let less = last-without i (seen i) (log_at c i) sound in
          let e = ap (λ (l : LogState). last_lsn (scanned l)) w.2 in
          let was = ap (λ (k : ℕ). last_lsn (scanned (log_at c k))) w.0 in
          omega (arith, less, e, was))
          (fallen-log j)

  -- nor what all logs owe at most
  pub fallen-owes : owed_in_all new ≤ owed_in_all c
  fallen-owes = sum-less (owes_most new) (owes_most c) 8 (λ j lo hi. each j)
    where
      txns-else : (j : ℕ) → j ≢ i → txns_at new j ≡ txns_at c j
      txns-else j ne = ap (λ (p : Parts). txns_at p j) parts ∙ item-kept no_txns c.txns i (txns_at new i) low j ne

      -- whoever falls owes what its log may
      fallen : (j : ℕ) → falls_at i c j ≡ true → owes_most new j ≡ owed_at new j
      fallen j falls = down (is_loose new j) (status_at new j)
          ((f.status j) ∙ ap (λ (b : Bool). cond {A = Status} b S.Down (status_at c j)) falls)
        where
          down : (b : Bool) (s : Status) → s ≡ S.Down
              → cond b (owed_at new j) (cond (tells_log s) (max (owed_at new j) (owed_of (txns_at new j))) (owed_at new j)) ≡ owed_at new j
          down true s e = refl
          down false s e = ap (λ (q : Status). cond (tells_log q) (max (owed_at new j) (owed_of (txns_at new j))) (owed_at new j)) e

      most : (b : Bool) (j : ℕ) → cond b (owed_unsettled c j) (owed_at c j) ≤ owes_most c j
      most true j = unsettled-most c j
      most false j = by (is_loose c j)
        where
          by : (b : Bool) → owed_at c j
              ≤ cond b (owed_at c j) (cond (tells_log (status_at c j)) (max (owed_at c j) (owed_of (txns_at c j))) (owed_at c j))
          by true = omega arith
          by false = at-least (tells_log (status_at c j)) (owed_of (txns_at c j)) (owed_at c j)

      each : (j : ℕ) → owes_most new j ≤ owes_most c j
      each j = ⊎_elim
          (λ falls. let is = fallen j falls in let own = f.owed j in let least = most (unsettles_at i c j) j in omega (arith, is, own, least))
          (λ stays.
          let ne : j ≢ i = λ e. (let clash : true ≡ false = sym (falls-itself i (status_at c i)) ∙ ap (falls_at i c) (sym e) ∙ stays in absurd (cc)) in
          let un : unsettles_at i c j ≡ false = counted j ne ∙ ap (λ (b : Bool). b && has_tail (log_at c j)) stays in
          let loose = f.loose j ∙ ap (λ (b : Bool). cond b true (is_loose c j)) un in
          let own = f.owed j ∙ ap (λ (b : Bool). cond b (owed_unsettled c j) (owed_at c j)) un in
          let status = f.status j ∙ ap (λ (b : Bool). cond {A = Status} b S.Down (status_at c j)) stays in
          let same : owes_most new j ≡ owes_most c j =
          ap₂ (λ (b : Bool) (n : ℕ). cond b n (cond (tells_log (status_at new j)) (max n (owed_of (txns_at new j))) n)) loose own
          ∙ ap₂ (λ (s : Status) (tb : Transactions). cond (is_loose c j) (owed_at c j) (cond (tells_log s) (max (owed_at c j) (owed_of tb)) (owed_at c j)))
          status (txns-else j ne) in
          omega (arith, same))
          (cases_Bool (falls_at i c j))
        where
          counted : (j : ℕ) → j ≢ i → unsettles_at i c j ≡ (falls_at i c j && has_tail (log_at c j))
          counted j ne = ap (λ (b : Bool). cond b (is_none o) (falls_at i c j && has_tail (log_at c j))) (ne_eqb i j (λ e. ne (sym e)))

  -- the versions are those without the tail that is dropped
  pub fallen-versions : (moved keeps : Keeps) (disk : ℕ → Page) (p : ℕ) → version_of (tails_of (log_by new moved)) disk keeps p
      ≡ version_of (tails_of (log_by c moved)) disk (kept_by i o keeps) p
  fallen-versions moved keeps disk p = by o refl logs-are
    where
      logs_of : (j : ℕ) → log_at new j ≡ log_at c j → log_by new moved j ≡ log_by c moved j
      logs_of j same = ap₂ (λ (l : LogState) (q : Option ℕ). cond (moved j) (option_map_or (λ place. begun_at place l) q l) l) same (others-are j)

      by : (z : Option ℕ) → o ≡ z → new.logs ≡ logs_by i z c → version_of (tails_of (log_by new moved)) disk keeps p
          ≡ version_of (tails_of (log_by c moved)) disk (kept_by i z keeps) p
      by None e is = ap (λ logs. version_of (tails_of logs) disk keeps p)
          (fun_ext (λ (j : ℕ). logs_of j (ap (λ (ls : List LogState). log_at (record c { logs = ls }) j) is)))
      by (Some owes) e is =
          let one = (g.settled i low high (when-dropped i owes c e).0).one_place in
          let at = λ (j : ℕ). ap (λ (ls : List LogState). log_at (record c { logs = ls }) j) is in
          sym (ap (λ (kept : ℕ → List Rec). newest (record { logs = kept; disk = disk }) p)
          (kept-all i (log_by c moved) (log_by new moved)
          (one-place new moved i (others-are i ∙ one) ∙ at i ∙ item-set no_log c.logs i (without_tail (log_at c i)) low high g.shape.logs
          ∙ sym (ap without_tail (one-place c moved i one)))
          (λ j ne. logs_of j (at j ∙ item-kept no_log c.logs i (without_tail (log_at c i)) low j ne)) keeps))
