use Rattle.std.proofs.Common.{◌≡◌, inl, inr, ⊎_elim, ℕ, ◌-◌, ◌^◌, ◌≤◌, List, min, sym, ap, ◌∙◌, subst, arith}
use Rattle.std.specs.Prelude.{IfErr, Option, Some, Result, Err, get_or, option_map}
use Rattle.std.proofs.lemmas.Result.{err_from_is_err_and}
use Rattle.sd_base.specs.declared.refusal.Refusal.{Refusal}
use Rattle.sd_log.specs.Logs.{LogState}
use Rattle.sd_logrec.specs.Spelling.{Changed, Span}
use Rattle.sd_logrec.specs.declared.record.Record.{Record}
use Rattle.sd_logrec.specs.declared.record.Record.TheVariants as records
use Rattle.sd_chain.specs.Logs.{next_lsn}
use Rattle.sd_state.specs.Complexes.{begun_of, parts}
use Rattle.sd_state.specs.Parts.{Begun, Parts, check_at, count_at, log_at}
use Rattle.sd_state.specs.declared.complex.Checkpoint.{Checkpoint}
use Rattle.sd_state.proofs.Items.{item-is}
use Rattle.sd_update.specs.Sealing.{NoRoomFor}
use Rattle.sd_ckpt.specs.Endings.{MayEnd, StaysUnended, end_len}
use Rattle.sd_ckpt.proofs.EndCalls.{check-item}
use Rattle.sd_ckpt.proofs.ending.end_for.Goals as goal

pub returns-in_default-clause-refused : goal.returns-in_default-clause-refused
returns-in_default-clause-refused g c =
    let i : ℕ = c.args.i in
    let p : Parts = parts c.args.c.now in
    let low : 1 ≤ i = omega (arith, c.get.ensures.value, c.get.ensures.low) in
    let high : i ≤ 8 = omega (arith, c.get.ensures.value, c.get.ensures.high) in
    let place : c.get.result - 1 ≡ i - 1 = ap (λ (n : ℕ). n - 1) c.get.ensures.value in
    let item : Option Checkpoint = c.index.result.now in
    let at : check_at p i ≡ option_map begun_of item = check-item c.args.c.now i item low high c.requires.shape
    (c.index.ensures ∙ ap (λ (n : ℕ). get_or c.args.c.now.checks.items n item) place) in
    at ∙ ap (option_map begun_of) c.in_default.is

pub end_len-requires-clause-few : goal.end_len-requires-clause-few
end_len-requires-clause-few g c =
    let i : ℕ = c.args.i in
    let p : Parts = parts c.args.c.now in
    let low : 1 ≤ i = omega (arith, c.get.ensures.value, c.get.ensures.low) in
    let high : i ≤ 8 = omega (arith, c.get.ensures.value, c.get.ensures.high) in
    let place : c.get.result - 1 ≡ i - 1 = ap (λ (n : ℕ). n - 1) c.get.ensures.value in
    let item : Option Checkpoint = c.index.result.now in
    let at : check_at p i ≡ option_map begun_of item = check-item c.args.c.now i item low high c.requires.shape
    (c.index.ensures ∙ ap (λ (n : ℕ). get_or c.args.c.now.checks.items n item) place) in
    let k : Begun = begun_of c.in-Some.check in
    let was : check_at p i ≡ Some k = at ∙ ap (option_map begun_of) c.in-Some.is in
    (c.requires.spelled k was).2

pub end_len-requires-clause-recs : goal.end_len-requires-clause-recs
end_len-requires-clause-recs g c =
    let i : ℕ = c.args.i in
    let p : Parts = parts c.args.c.now in
    let low : 1 ≤ i = omega (arith, c.get.ensures.value, c.get.ensures.low) in
    let high : i ≤ 8 = omega (arith, c.get.ensures.value, c.get.ensures.high) in
    let place : c.get.result - 1 ≡ i - 1 = ap (λ (n : ℕ). n - 1) c.get.ensures.value in
    let item : Option Checkpoint = c.index.result.now in
    let at : check_at p i ≡ option_map begun_of item = check-item c.args.c.now i item low high c.requires.shape
    (c.index.ensures ∙ ap (λ (n : ℕ). get_or c.args.c.now.checks.items n item) place) in
    let k : Begun = begun_of c.in-Some.check in
    let was : check_at p i ≡ Some k = at ∙ ap (option_map begun_of) c.in-Some.is in
    (c.requires.spelled k was).1

pub returns-in_err-may_seal-clause-refused : goal.returns-in_err-may_seal-clause-refused
returns-in_err-may_seal-clause-refused g c =
    let i : ℕ = c.args.i in
    let p : Parts = parts c.args.c.now in
    let low : 1 ≤ i = omega (arith, c.get.ensures.value, c.get.ensures.low) in
    let high : i ≤ 8 = omega (arith, c.get.ensures.value, c.get.ensures.high) in
    let place : c.get.result - 1 ≡ i - 1 = ap (λ (n : ℕ). n - 1) c.get.ensures.value in
    let item : Option Checkpoint = c.index.result.now in
    let at : check_at p i ≡ option_map begun_of item = check-item c.args.c.now i item low high c.requires.shape
    (c.index.ensures ∙ ap (λ (n : ℕ). get_or c.args.c.now.checks.items n item) place) in
    let k : Begun = begun_of c.in-Some.check in
    let was : check_at p i ≡ Some k = at ∙ ap (option_map begun_of) c.in-Some.is in
    let q = err_from_is_err_and c.from_residual.result c.from_residual.ensures.1 in
    let n : Refusal = c.in_err-may_seal.field-0.0 in
    let may = c.in_err-may_seal.ensures in
    let why : StaysUnended i p n = ⊎_elim
    (λ e. subst (StaysUnended i p) (sym e) (
      k,
      was,
      subst (λ (x : ℕ). NoRoomFor i x p) c.end_len.ensures
          (may.full.0 (ap (λ (x : Refusal). Err x) e)),
    ))
    (λ e. let left = may.lsns.0 (ap (λ (x : Refusal). Err x) e) in subst (StaysUnended i p) (sym e)
    (k, was, (λ none. left.0 (subst (λ (x : ℕ). NoRoomFor i x p) (sym c.end_len.ensures) none)), inl left.1))
    may.only in
    subst (λ (r : Result (ℕ × Record) Refusal). IfErr r (λ (x : Refusal). StaysUnended i p x))
    (sym (q.1 ∙ ap (λ (x : Refusal). Err x) q.2)) why

pub returns-then-index-clause-refused : goal.returns-then-index-clause-refused
returns-then-index-clause-refused g c =
    let i : ℕ = c.args.i in
    let p : Parts = parts c.args.c.now in
    let low : 1 ≤ i = omega (arith, c.get.ensures.value, c.get.ensures.low) in
    let high : i ≤ 8 = omega (arith, c.get.ensures.value, c.get.ensures.high) in
    let place : c.get.result - 1 ≡ i - 1 = ap (λ (n : ℕ). n - 1) c.get.ensures.value in
    let item : Option Checkpoint = c.index.result.now in
    let at : check_at p i ≡ option_map begun_of item = check-item c.args.c.now i item low high c.requires.shape
    (c.index.ensures ∙ ap (λ (n : ℕ). get_or c.args.c.now.checks.items n item) place) in
    let k : Begun = begun_of c.in-Some.check in
    let was : check_at p i ≡ Some k = at ∙ ap (option_map begun_of) c.in-Some.is in
    let room : NoRoomFor i (end_len k) p → ⊥ = λ none. c.in_ok-may_seal.ensures.room
    (subst (λ (n : ℕ). NoRoomFor i n p) (sym c.end_len.ensures) none) in
    let count : ℕ = c.index-2.result.now in
    let count_is : count_at p i ≡ count = item-is 0 p.masters i count low high c.requires.shape.masters
    (c.index-2.ensures ∙ ap (λ (n : ℕ). get_or p.masters n count) place) in
    (k, was, room, inr (omega (arith, c.if-index.true, count_is)))

pub returns-in_err-spans-clause-refused : goal.returns-in_err-spans-clause-refused
returns-in_err-spans-clause-refused g c =
    let i : ℕ = c.args.i in
    let p : Parts = parts c.args.c.now in
    let low : 1 ≤ i = omega (arith, c.get.ensures.value, c.get.ensures.low) in
    let high : i ≤ 8 = omega (arith, c.get.ensures.value, c.get.ensures.high) in
    let place : c.get.result - 1 ≡ i - 1 = ap (λ (n : ℕ). n - 1) c.get.ensures.value in
    let item : Option Checkpoint = c.index.result.now in
    let at : check_at p i ≡ option_map begun_of item = check-item c.args.c.now i item low high c.requires.shape
    (c.index.ensures ∙ ap (λ (n : ℕ). get_or c.args.c.now.checks.items n item) place) in
    let k : Begun = begun_of c.in-Some.check in
    let was : check_at p i ≡ Some k = at ∙ ap (option_map begun_of) c.in-Some.is in
    let room : NoRoomFor i (end_len k) p → ⊥ = λ none. c.in_ok-may_seal.ensures.room
    (subst (λ (n : ℕ). NoRoomFor i n p) (sym c.end_len.ensures) none) in
    let count : ℕ = c.index-2.result.now in
    let count_is : count_at p i ≡ count = item-is 0 p.masters i count low high c.requires.shape.masters
    (c.index-2.ensures ∙ ap (λ (n : ℕ). get_or p.masters n count) place) in
    let may : MayEnd i k p = record {
      begun = was;
      room = room;
      lsns = c.in_ok-may_seal.ensures.left;
      count = omega (arith, c.if-index.false, count_is);
    } in
    let q = err_from_is_err_and c.from_residual-in_err-spans.result c.from_residual-in_err-spans.ensures.1 in
    subst (λ (r : Result (ℕ × Record) Refusal). IfErr r (λ (x : Refusal). StaysUnended i p x))
    (sym (q.1 ∙ ap (λ (x : Refusal). Err x) q.2)) (k, may)

pub returns-clause-may : goal.returns-clause-may
returns-clause-may g c =
    let i : ℕ = c.args.i in
    let p : Parts = parts c.args.c.now in
    let low : 1 ≤ i = omega (arith, c.get.ensures.value, c.get.ensures.low) in
    let high : i ≤ 8 = omega (arith, c.get.ensures.value, c.get.ensures.high) in
    let place : c.get.result - 1 ≡ i - 1 = ap (λ (n : ℕ). n - 1) c.get.ensures.value in
    let item : Option Checkpoint = c.index.result.now in
    let at : check_at p i ≡ option_map begun_of item = check-item c.args.c.now i item low high c.requires.shape
    (c.index.ensures ∙ ap (λ (n : ℕ). get_or c.args.c.now.checks.items n item) place) in
    let k : Begun = begun_of c.in-Some.check in
    let was : check_at p i ≡ Some k = at ∙ ap (option_map begun_of) c.in-Some.is in
    let room : NoRoomFor i (end_len k) p → ⊥ = λ none. c.in_ok-may_seal.ensures.room
    (subst (λ (n : ℕ). NoRoomFor i n p) (sym c.end_len.ensures) none) in
    let count : ℕ = c.index-2.result.now in
    let count_is : count_at p i ≡ count = item-is 0 p.masters i count low high c.requires.shape.masters
    (c.index-2.ensures ∙ ap (λ (n : ℕ). get_or p.masters n count) place) in
    let may : MayEnd i k p = record {
      begun = was;
      room = room;
      lsns = c.in_ok-may_seal.ensures.left;
      count = omega (arith, c.if-index.false, count_is);
    } in
    let lsn : c.next_lsn.result ≡ min (next_lsn (log_at p i) 0) (2 ^ 62 - 1) = c.next_lsn.ensures
    ∙ ap (λ (l : LogState). min (next_lsn l 0) (2 ^ 62 - 1)) c.log.ensures in (
      k,
      may,
      c.low_of.ensures,
      ap (λ (n : ℕ). records.EndCheck n k.begin c.in_ok-spans.spans c.in_ok-spans.recs) lsn
          ∙ ap (λ (rows : List Span). records.EndCheck (min (next_lsn (log_at p i) 0) (2 ^ 62 - 1)) k.begin rows c.in_ok-spans.recs)
          c.in_ok-spans.ensures.0
          ∙ ap (λ (rows : List Changed). records.EndCheck (min (next_lsn (log_at p i) 0) (2 ^ 62 - 1)) k.begin k.spans rows)
          c.in_ok-spans.ensures.1,
    )
