use Rattle.std.proofs.Common.{◌≡◌, ℕ, ◌-◌, ◌∙◌, inl, inr, true, false, List, length, take, drop, sym, ap, subst, arith, length-drop}
use Rattle.std.proofs.lemmas.List.{drop-drop, take_all}
use Rattle.std.proofs.lemmas.Result.{err_from_is_err_and}
use Rattle.sd_base.specs.declared.refusal.Refusal.TheVariants as R
use Rattle.sd_logrec.specs.Kept.{fits_area, group_len}
use Rattle.sd_logrec.proofs.Groups.{small_len}
use Rattle.sd_log.proofs.Bodies.{front_to_body, front_to_gate, front_to_length, reads_bad_body, reads_bad_length, reads_group, reads_to_gate, text_group}
use Rattle.sd_log.proofs.reading.read_groups.Goals as goal

pub returns-in_default-clause-err : goal.returns-in_default-clause-err
returns-in_default-clause-err c =
    let shown = sym c.is_open.ensures ∙ c.loop-rest-test.true in
    let bad = subst (λ at. fits_area at (group_len c.loop-rest.rest.now) ≡ false) c.gate-at.ensures c.in_default.ensures in
    let place = c.loop-rest.invariant.0.place in
    let some = c.loop-rest.invariant.0.some in
    inr (
      inl (c.loop-rest.journal.gate, ap (λ at. R.BadLog at) c.gate-at.ensures, reads_bad_length c.args.bytes.now c.loop-rest.rest.now c.args.journal.now c.loop-rest.journal c.loop-rest.invariant.0 shown bad, omega arith),
      front_to_length c.args.bytes.now c.loop-rest.rest.now c.args.journal.now c.loop-rest.journal c.loop-rest.invariant.0 bad,
    )

pub returns-clause-ok : goal.returns-clause-ok
returns-clause-ok c = reads_to_gate c.args.bytes.now c.loop-rest.rest.now c.args.journal.now c.loop-rest.journal c.loop-rest.invariant.0 (sym c.is_open.ensures ∙ c.loop-rest-test.false)

pub returns-clause-front : goal.returns-clause-front
returns-clause-front c = front_to_gate c.args.bytes.now c.loop-rest.rest.now c.args.journal.now c.loop-rest.journal c.loop-rest.invariant.0 (sym c.is_open.ensures ∙ c.loop-rest-test.false)

pub loop-rest-preserved : goal.loop-rest-preserved
loop-rest-preserved c =
    let rest : List ℕ = c.loop-rest.rest.now in
    let now = c.loop-rest.journal in
    let len = c.in-Some.len in
    let is = c.in-Some.ensures in
    let shown = sym c.is_open.ensures ∙ c.loop-rest-test.true in
    let part : take (length rest - 5) (drop 5 rest) ≡ drop 5 rest = take_all (length rest - 5) (drop 5 rest) (omega (arith, length-drop 5 rest)) in
    let fits = subst (λ at. fits_area at len ≡ true) c.gate-at.ensures is.1 in
    let small = small_len now.gate len fits in
    let place = c.loop-rest.invariant.0.place in
    let adds = c.in_ok-read_group.ensures.ok in (
      reads_group c.args.bytes.now rest c.split_at.result.1.now c.split_at.result.0.now len c.args.journal.now now c.read_group.new.journal c.loop-rest.invariant.0 shown (sym is.0) fits
          (c.split_at.ensures.front ∙ ap (take len) part) (c.split_at.ensures.back ∙ ap (drop len) part ∙ drop-drop len 5 rest) (omega (arith, small.1)) adds,
      c.in_ok-read_group.ensures.text ∙ text_group c.split_at.result.0.now c.loop-rest.text.items now c.read_group.new.journal adds c.loop-rest.invariant.1,
    )

pub returns-in_err-read_group-clause-err : goal.returns-in_err-read_group-clause-err
returns-in_err-read_group-clause-err c =
    let p = err_from_is_err_and c.from_residual.result c.from_residual.ensures.1 in
    let rest : List ℕ = c.loop-rest.rest.now in
    let now = c.loop-rest.journal in
    let len = c.in-Some.len in
    let is = c.in-Some.ensures in
    let shown = sym c.is_open.ensures ∙ c.loop-rest-test.true in
    let part : take (length rest - 5) (drop 5 rest) ≡ drop 5 rest = take_all (length rest - 5) (drop 5 rest) (omega (arith, length-drop 5 rest)) in
    let fits = subst (λ at. fits_area at len ≡ true) c.gate-at.ensures is.1 in
    let small = small_len now.gate len fits in
    let size = c.split_at.ensures.front_len in
    rw (p.1, p.2) (elim c.in_err-read_group.ensures.err [
      | inl lacks ↦ inl lacks
      | inr x ↦ inr (
        inr (x.0, x.1, reads_bad_body c.args.bytes.now rest c.split_at.result.0.now len x.0 c.args.journal.now now c.loop-rest.invariant.0 shown (sym is.0) fits (c.split_at.ensures.front ∙ ap (take len) part) x.2, omega (arith, x.3, small.1)),
        front_to_body c.args.bytes.now rest c.split_at.result.0.now len x.0 c.args.journal.now now c.read_group.new.journal c.loop-rest.invariant.0 shown (sym is.0) fits (c.split_at.ensures.front ∙ ap (take len) part) x.2 x.4,
      )
    ])
