use Rattle.std.proofs.Common.{◌≡◌, ◌≤◌, length, refl, sym, ap, ◌∙◌, subst}
use Rattle.std.specs.Prelude.{IfSome, IsSome, Option, Some, option_copied, option_map}
use Rattle.sd_log.specs.Logs.{needed}
use Rattle.sd_logrec.specs.Spelling.{HasSpelling, spelling}
use Rattle.sd_txn.specs.Transactions.{popped, top_at}
use Rattle.sd_txn.specs.declared.state.OpenRec.{OpenRec}
use Rattle.sd_update.specs.Changing.{change_in, update}
use Rattle.sd_state.proofs.Answered.{on-err}
use Rattle.sd_update.proofs.ChangeCalls.{pop-pushed, pushed-top}
use Rattle.sd_state.proofs.SameTables.{table-same}
use Rattle.sd_update.proofs.changes.log_change.Goals as goal

pub returns-in_err-push-clause-table_stays : goal.returns-in_err-push-clause-table_stays
returns-in_err-push-clause-table_stays c = on-err c.from_residual.result _
    (table-same c.args.table.now c.push.new.self c.args.t.now c.keeps.ensures.once c.in_err-push.ensures.err c.push.ensures.others c.push.ensures.order)

pub returns-in-Err-clause-table_stays : goal.returns-in-Err-clause-table_stays
returns-in-Err-clause-table_stays c = on-err c.append_top-done.result _
    (table-same c.args.table.now c.pop-top.new.self c.args.t.now c.keeps.ensures.once
    (c.pop-top.ensures.changed ∙ ap (option_map popped) c.in_ok-push.ensures.changed
    ∙ pop-pushed _ c.args.ready.top (c.keeps.ensures.marks c.args.t.now))
    (λ u ne. c.pop-top.ensures.others u ne ∙ c.push.ensures.others u ne)
    (record {
      same_ids = c.pop-top.ensures.order.same_ids ∙ c.push.ensures.order.same_ids;
      same_inst = c.pop-top.ensures.order.same_inst ∙ c.push.ensures.order.same_inst;
      same_epoch = c.pop-top.ensures.order.same_epoch ∙ c.push.ensures.order.same_epoch;
      same_begins = c.pop-top.ensures.order.same_begins ∙ c.push.ensures.order.same_begins;
    }))

top_is : (c : goal.After-append_top-arg-1) → top_at c.push.new.self c.args.t.now ≡ Some c.args.ready.top
top_is c = pushed-top _ _ c.args.ready.top c.requires.known c.in_ok-push.ensures.changed

pub append_top-done-requires-clause-there : goal.append_top-done-requires-clause-there
append_top-done-requires-clause-there c = subst IsSome (sym (top_is c)) refl

pub append_top-done-requires-clause-spelled : goal.append_top-done-requires-clause-spelled
append_top-done-requires-clause-spelled c =
    subst (λ (o : Option OpenRec). IfSome o (λ top. HasSpelling (update (change_in c.args.t.now top c.args.ready.capacity (option_copied c.args.ready.after)))))
    (sym (top_is c)) c.requires.spelled

pub append_top-done-requires-clause-room : goal.append_top-done-requires-clause-room
append_top-done-requires-clause-room c =
    subst (λ (o : Option OpenRec). IfSome o (λ top.
    needed c.args.log.now (length (spelling (update (change_in c.args.t.now top c.args.ready.capacity (option_copied c.args.ready.after))))) c.args.reserve ≤ 1048576))
    (sym (top_is c)) c.requires.room
