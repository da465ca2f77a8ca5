use Rattle.std.proofs.Common.{◌≡◌, ◌≢◌, ℕ, ◌<◌, List, [], ◌∷◌, ◌++◌, length, reverse, sym, ap, subst, ◌∙◌, arith, get_or}
use Rattle.std.proofs.lemmas.List.{append-nil, append_assoc, get_or_default}
use Rattle.sd_base.specs.declared.ids.TxnId.{TxnId}
use Rattle.sd_reclock.specs.declared.deadlock.Met.{Met}
use Rattle.sd_reclock.specs.Reaching.{met_at, IsWay}
use Rattle.sd_reclock.proofs.deadlock.Asking.way.Goals as goal

-- one place further on the way
way_more : (t : TxnId) (found : List Met) (at : ℕ) (path rest : List TxnId) → at ≢ 0 → IsWay t found at rest
    → (left : List TxnId) × IsWay t found (met_at t found at).from left × ((path ++ (met_at t found (met_at t found at).from).txn ∷ []) ++ left ≡ path ++ rest)
way_more t found at path [] ne h = absurd (ne h)
way_more t found at path (y ∷ ys) ne h = (ys, h.2, append_assoc path ((met_at t found (met_at t found at).from).txn ∷ []) ys ∙ ap (λ (z : TxnId). path ++ z ∷ ys) h.1)

-- at the first place the way is whole
way_end : (t : TxnId) (found : List Met) (at : ℕ) (path rest whole : List TxnId) → at ≡ 0 → IsWay t found at rest → path ++ rest ≡ whole → path ≡ whole
way_end t found at path [] whole z h e = sym (append-nil path) ∙ e
way_end t found at path (y ∷ ys) whole z h e = let low = h.0 in absurd (omega arith)

pub loop-at-preserved : goal.loop-at-preserved
loop-at-preserved g c =
    let t = c.args.self.now.asker in
    let found = c.args.found.now in
    let at = c.loop-at.at in
    let inside : at < length found = c.loop-at.invariant.inside in
    let ne : at ≢ 0 = omega arith in
    let less = c.requires.back at (omega arith) inside in
    let here : get_or found at c.index-found-at.result ≡ met_at t found at = get_or_default found at c.index-found-at.result (record { txn = t; from = 0 }) inside in
    let within : (get_or found at c.index-found-at.result).from < length found = subst (λ (m : Met). m.from < length found) (sym here) (omega arith) in
    let next : get_or found (get_or found at c.index-found-at.result).from c.index-found-at-in-loop-at.result ≡ met_at t found (met_at t found at).from =
    get_or_default found (get_or found at c.index-found-at.result).from c.index-found-at-in-loop-at.result (record { txn = t; from = 0 }) within ∙ ap (λ (m : Met). met_at t found m.from) here in
    record {
      inside = within;
      whole = λ back way.
          let h = c.loop-at.invariant.whole back way in
          let more = way_more t found at c.loop-at.way.items h.0 ne h.1 in (
            more.0,
            subst (λ (m : Met). IsWay t found m.from more.0) (sym here) more.1,
            ap (λ (xs : List TxnId). xs ++ more.0) c.in_ok-push-3.ensures.items ∙ ap (λ (m : Met). (c.loop-at.way.items ++ m.txn ∷ []) ++ more.0) next ∙ more.2 ∙ h.2,
          );
    }

pub returns : goal.returns
returns g c = λ back way.
    let h = c.loop-at.invariant.whole back way in
    c.reverse.ensures.items ∙ ap reverse (way_end c.args.self.now.asker c.args.found.now c.loop-at.at c.loop-at.way.items h.0
    (c.args.self.now.asker ∷ (met_at c.args.self.now.asker c.args.found.now c.args.last).txn ∷ back) (omega arith) h.1 h.2)
