use Rattle.std.proofs.Common.{◌≡◌, inl, ⊎_elim, None, Some, refl, sym, take, rules, ◌∙◌}
use Rattle.std.specs.Map.{lookup}
use Rattle.sd_base.specs.Ids.{same_txn}
use Rattle.sd_log.specs.Logs.{flats}
use Rattle.sd_chain.specs.Order.{none_yet, after_all}
use Rattle.sd_recovered.proofs.Known.{rec_at, noting, finds_closed, finds_it, finds_none, least_at, shut_all, silent_all}
use Rattle.sd_recovered.proofs.Runs.{run_all, tells_on}
use Rattle.sd_recovered.proofs.transactions.note_run.Goals as goal
use Rattle.sd_base.proofs.Orders.{look-txn, put-txn}

pub returns-in_default-clause-known : goal.returns-in_default-clause-known
returns-in_default-clause-known c =
    silent_all c.args.log.now c.args.at c.index-log-at.result c.args.known.now.closed c.args.known.now.rows.entries c.requires.inside
    (sym c.in_default.is ∙ c.txn_of.ensures) c.requires.known

pub returns-in_default-clause-least : goal.returns-in_default-clause-least
returns-in_default-clause-least c =
    least_at c.args.log.now c.args.at c.args.worst None c.args.worst c.requires.inside c.requires.least
    (finds_none c.args.log.now c.args.at c.index-log-at.result c.requires.inside (sym c.in_default.is ∙ c.txn_of.ensures))
    (inl refl) (λ j e. ⊎_elim (λ h. h) (λ f. absurd f) e)

pub returns-in-Some-find-clause-known : goal.returns-in-Some-find-clause-known
returns-in-Some-find-clause-known c =
    shut_all c.args.log.now c.args.at c.index-log-at.result c.in-Some.txn c.in-Some-find.end c.args.known.now.closed c.args.known.now.rows.entries
    c.requires.inside (sym c.in-Some.is ∙ c.txn_of.ensures) (sym c.in-Some-find.is ∙ c.find.ensures) c.requires.known

pub returns-in-Some-find-clause-least : goal.returns-in-Some-find-clause-least
returns-in-Some-find-clause-least c =
    least_at c.args.log.now c.args.at c.args.worst (Some c.in-Some-find.end) c.least.result c.requires.inside c.requires.least
    (finds_closed c.args.log.now c.args.at c.index-log-at.result c.in-Some.txn c.in-Some-find.end c.args.known.now.closed c.args.known.now.rows.entries
    c.requires.inside (sym c.in-Some.is ∙ c.txn_of.ensures) (sym c.in-Some-find.is ∙ c.find.ensures) c.requires.known)
    c.least.ensures.either c.least.ensures.covers

pub note_rest-requires-clause-tells : goal.note_rest-requires-clause-tells
note_rest-requires-clause-tells c =
    let log = c.args.log.now in
    let at = c.args.at in
    let x = rec_at log at c.index-log-at.result in
    let t = c.in-Some.txn in
    let rows = c.args.known.now.rows.entries in
    let closed = c.args.known.now.closed in
    let unshut : lookup (same_txn t) closed ≡ None = search rules in
    let seen = c.unwrap_or-seen.result in
    let noting = noting log at c.index-log-at.result t closed rows c.remove.result c.new-fresh.result seen c.requires.inside
    c.requires.known unshut (sym c.in-Some.is ∙ c.txn_of.ensures) (c.remove.ensures.value ∙ look-txn t rows)
    (c.new-fresh.ensures.empty log) c.new-fresh.ensures.first (c.new-fresh.ensures.prev ∙ c.prev_of.ensures) c.new-fresh.ensures.closed c.unwrap_or-seen.ensures in
    let sofar = after_all x.txn none_yet (flats (take at log)) in
    tells_on log at x t seen c.note.new.self c.requires.inside noting
    (c.in_ok-note.ensures.noted log sofar noting.there noting.ready.fits) c.in_ok-note.ensures.first c.in_ok-note.ensures.prev
    c.in_ok-note.ensures.closed

pub note_rest-requires-clause-least : goal.note_rest-requires-clause-least
note_rest-requires-clause-least c =
    let log = c.args.log.now in
    let at = c.args.at in
    let x = rec_at log at c.index-log-at.result in
    let t = c.in-Some.txn in
    let rows = c.args.known.now.rows.entries in
    let closed = c.args.known.now.closed in
    let unshut : lookup (same_txn t) closed ≡ None = search rules in
    let seen = c.unwrap_or-seen.result in
    let noting = noting log at c.index-log-at.result t closed rows c.remove.result c.new-fresh.result seen c.requires.inside
    c.requires.known unshut (sym c.in-Some.is ∙ c.txn_of.ensures) (c.remove.ensures.value ∙ look-txn t rows)
    (c.new-fresh.ensures.empty log) c.new-fresh.ensures.first (c.new-fresh.ensures.prev ∙ c.prev_of.ensures) c.new-fresh.ensures.closed c.unwrap_or-seen.ensures in
    least_at log at c.args.worst c.misplaced-found.result c.least-2.result c.requires.inside c.requires.least
    (finds_it log at x t seen c.misplaced-found.result c.requires.inside noting c.misplaced-found.ensures.shut c.misplaced-found.ensures.next)
    c.least-2.ensures.either c.least-2.ensures.covers

pub returns-clause-known : goal.returns-clause-known
returns-clause-known c =
    let log = c.args.log.now in
    let at = c.args.at in
    let x = rec_at log at c.index-log-at.result in
    let t = c.in-Some.txn in
    let rows = c.args.known.now.rows.entries in
    let closed = c.args.known.now.closed in
    let unshut : lookup (same_txn t) closed ≡ None = search rules in
    let seen = c.unwrap_or-seen.result in
    let noting = noting log at c.index-log-at.result t closed rows c.remove.result c.new-fresh.result seen c.requires.inside
    c.requires.known unshut (sym c.in-Some.is ∙ c.txn_of.ensures) (c.remove.ensures.value ∙ look-txn t rows)
    (c.new-fresh.ensures.empty log) c.new-fresh.ensures.first (c.new-fresh.ensures.prev ∙ c.prev_of.ensures) c.new-fresh.ensures.closed c.unwrap_or-seen.ensures in
    run_all log at x t (flats (take c.in_ok-next.next log)) closed c.keep.new.self.closed rows c.remove.new.self.entries
    c.keep.new.self.rows.entries seen c.note_rest.new.seen noting c.requires.known c.in_ok-next.ensures.others c.in_ok-next.ensures.tells unshut
    (λ q. put-txn t q None rows c.remove.new.self.entries (c.remove.ensures.updates.0 q)) c.in_ok-keep.ensures
