-- Reports, computed from their scripts and books.
use Rattle.std.proofs.Common.{◌≡◌, ℕ, true, List, [], ◌∷◌, ◌++◌, refl}
use Rattle.std.specs.Prelude.{None, Some, codes}
use Rattle.std.specs.Fmt.{digits}
use Rattle.sd_base.specs.Ids.{same_txn}
use Rattle.sd_base.specs.declared.ids.Rid.{Rid}
use Rattle.sd_base.specs.declared.ids.TxnId.{TxnId}
use Rattle.sd_base.specs.declared.place.Mode.TheVariants as mode
use Rattle.sd_base.specs.declared.place.Place.TheVariants as place
use Rattle.sd_base.specs.declared.place.Status.TheVariants as status
use Rattle.sd_base.specs.declared.refusal.Refusal.TheVariants as refusal
use Rattle.sd_base.specs.declared.trouble.Pick.TheVariants as pick
use Rattle.sd_base.specs.declared.trouble.Trouble.TheVariants as trouble
use Rattle.sd_model.specs.declared.event.Event.{Event}
use Rattle.sd_model.specs.declared.event.Event.TheVariants as event
use Rattle.sd_model.specs.declared.event.Reply.{Reply}
use Rattle.sd_model.specs.declared.event.Reply.TheVariants as reply
use Rattle.sd_model.specs.declared.event.Entry.{Entry}
use Rattle.sd_script.specs.declared.line.Form.{Form}
use Rattle.sd_script.specs.declared.line.Form.TheVariants as form
use Rattle.sd_script.specs.declared.line.Line.{Line}
use Rattle.sd_report.specs.Report.{report}

-- the form of the line of this number
abbrev at : ℕ → Form → Line
at number form = record { number = number; session = 0; form = form }

-- the event asked for the line of this number, and its reply
abbrev noted : ℕ → Event → Reply → Entry
noted number event reply = record { session = 0; line = number; event = event; reply = reply }

abbrev txn : ℕ → TxnId
txn seq = record { inst = 1; epoch = 1; seq = seq }

abbrev slot : ℕ → Rid
slot n = record { page = 0; slot = n }

abbrev text : List (List ℕ) → List ℕ
text [] = []
text (line ∷ lines) = line ++ 10 ∷ text lines

-- a page is pulled for an insert, which is then done
abbrev pulled : List ℕ
pulled =
    report
    (at 1 (form.Complex 1 1 2) ∷ at 2 (form.Begin 1 (codes "a")) ∷ at 3 (form.Insert (codes "a") 0 0 (codes "red") (Some 5))
    ∷ at 4 (form.Read (codes "a") 0 (slot 0)) ∷ at 5 (form.Commit (codes "a") 0) ∷ at 6 (form.Where 0) ∷ at 7 form.Table ∷ [])
    (noted 0 (event.Join 1) (reply.Joined 1) ∷ noted 2 (event.Begin 1) (reply.Began (txn 1))
    ∷ noted 3 (event.Insert (txn 1) 0 (codes "red") 5) (reply.Refused (refusal.NeedPage place.Free))
    ∷ noted 0 (event.Ask 1 0 mode.Excl) reply.Have
    ∷ noted 3 (event.Insert (txn 1) 0 (codes "red") 5) (reply.At (slot 0))
    ∷ noted 4 (event.Read (txn 1) (slot 0)) (reply.Value (Some (codes "red"))) ∷ noted 5 (event.Commit (txn 1)) reply.Did
    ∷ noted 6 (event.Show 0) (reply.Shown (place.Excl 1 true) 2)
    ∷ noted 7 (event.List 1 0) (reply.Rows ((slot 0, codes "red") ∷ [])) ∷ [])

pulled_report : pulled ≡ text (
    codes "complex 1 1 2" ∷ codes "a begin 1.1.1" ∷ codes "a insert 0.0" ∷ codes "a read 0.0 = red" ∷ codes "a commit"
    ∷ codes "0 excl 1 lsn 2 dirty" ∷ codes "0.0 red" ∷ codes "table 1" ∷ [])
unfolding digits
pulled_report = refl

-- a page can't be pulled, one transaction waits for another, a name has no transaction, and the flushed page isn't there
abbrev refused : List ℕ
refused =
    report
    (at 1 (form.Complex 1 1 2) ∷ at 2 (form.Begin 1 (codes "a")) ∷ at 3 (form.Begin 1 (codes "b"))
    ∷ at 4 (form.Begin 1 (codes "c")) ∷ at 5 (form.Write (codes "a") 0 (slot 0) (codes "red"))
    ∷ at 6 (form.Delete (codes "b") 1 (slot 0))
    ∷ at 7 (form.Commit (codes "c") 2) ∷ at 8 (form.Flush 1 0) ∷ at 9 form.Table ∷ [])
    (noted 2 (event.Begin 1) (reply.Began (txn 1)) ∷ noted 3 (event.Begin 1) (reply.Began (txn 2))
    ∷ noted 4 (event.Begin 1) (reply.Refused refusal.TooManyTxns)
    ∷ noted 5 (event.Write (txn 1) (slot 0) (codes "red")) (reply.Refused (refusal.NeedPage place.Free))
    ∷ noted 0 (event.Ask 1 0 mode.Excl) (reply.Refused refusal.Failed)
    ∷ noted 5 (event.Write (txn 1) (slot 0) (codes "red")) (reply.Refused (refusal.NeedPage place.Free))
    ∷ noted 6 (event.Delete (txn 2) (slot 0)) (reply.Refused (refusal.Blocked (txn 1)))
    ∷ noted 8 (event.Flush 1 0) (reply.Refused (refusal.NeedPage place.Free))
    ∷ noted 9 (event.List 1 0) (reply.Refused (refusal.Busy (txn 1))) ∷ [])

refused_report : refused ≡ text (
    codes "complex 1 1 2" ∷ codes "a begin 1.1.1" ∷ codes "b begin 1.1.2" ∷ codes "c too many" ∷ codes "a fault"
    ∷ codes "b wait for a" ∷ codes "c ended" ∷ codes "1 need 0" ∷ codes "busy a" ∷ [])
unfolding digits same_txn
refused_report = refl

-- a commit is cut, all instances fail, and the one that there is recovers and joins again
abbrev restarted : List ℕ
restarted =
    report
    (at 1 (form.Complex 1 1 2) ∷ at 2 (form.Begin 1 (codes "a")) ∷ at 3 (form.Insert (codes "a") 0 0 (codes "red") None)
    ∷ at 4 (form.Fault 4) ∷ at 5 (form.Commit (codes "a") 0) ∷ at 6 (form.FailAll pick.Keep) ∷ at 7 form.Reopen
    ∷ at 8 form.RecoverAll ∷ at 9 form.JoinAll ∷ at 10 form.Table ∷ [])
    (noted 0 (event.Join 1) (reply.Joined 1) ∷ noted 2 (event.Begin 1) (reply.Began (txn 1))
    ∷ noted 3 (event.Insert (txn 1) 0 (codes "red") 3) (reply.At (slot 0)) ∷ noted 4 (event.Arm (trouble.Fault 4)) reply.Did
    ∷ noted 5 (event.Commit (txn 1)) (reply.Refused refusal.CutCommit) ∷ noted 6 (event.FailAll pick.Keep) reply.Did
    ∷ noted 7 event.Reopen reply.Did ∷ noted 8 (event.RecoverBegin 1 1) reply.Did ∷ noted 8 (event.RecoverStep 1) reply.Step
    ∷ noted 8 (event.RecoverStep 1) reply.Finished ∷ noted 9 (event.Join 1) (reply.Joined 2)
    ∷ noted 10 (event.List 1 0) (reply.Refused (refusal.NeedPage place.Free)) ∷ noted 0 (event.Ask 1 0 mode.Shared) reply.Have
    ∷ noted 10 (event.List 1 0) (reply.Rows ((slot 0, codes "red") ∷ [])) ∷ [])

restarted_report : restarted ≡ text (
    codes "complex 1 1 2" ∷ codes "a begin 1.1.1" ∷ codes "a insert 0.0" ∷ codes "fault 4" ∷ codes "a cut"
    ∷ codes "fail all keep" ∷ codes "reopen" ∷ codes "recover all" ∷ codes "join all" ∷ codes "0.0 red" ∷ codes "table 1" ∷ [])
unfolding digits
restarted_report = refl

-- a closed complex has nobody to recover, one that is open can't be opened, and a page that a recovery needs can't be pulled
abbrev unrecovered : List ℕ
unrecovered =
    report
    (at 1 (form.Complex 2 1 2) ∷ at 2 (form.FailAll pick.Tear) ∷ at 3 form.RecoverAll ∷ at 4 form.JoinAll ∷ at 5 form.Reopen
    ∷ at 6 form.Reopen ∷ at 7 form.RecoverAll ∷ at 8 form.JoinAll ∷ [])
    (noted 0 (event.Join 1) (reply.Joined 1) ∷ noted 0 (event.Join 2) (reply.Joined 1)
    ∷ noted 2 (event.FailAll pick.Tear) reply.Did ∷ noted 4 (event.Join 1) (reply.Refused refusal.Down)
    ∷ noted 5 event.Reopen reply.Did ∷ noted 6 event.Reopen (reply.Refused (refusal.NotDown status.Down))
    ∷ noted 7 (event.RecoverBegin 1 1) reply.Did ∷ noted 7 (event.RecoverStep 1) (reply.Refused (refusal.NeedPage place.Free))
    ∷ noted 0 (event.Ask 1 0 mode.Excl) (reply.Refused refusal.Failed)
    ∷ noted 7 (event.RecoverStep 1) (reply.Refused (refusal.NeedPage place.Free))
    ∷ noted 8 (event.Join 1) (reply.Refused (refusal.NotRecovered (status.Recovering 1))) ∷ [])

unrecovered_report : unrecovered ≡ text (
    codes "complex 2 1 2" ∷ codes "fail all tear" ∷ codes "recover all" ∷ codes "join all down" ∷ codes "reopen"
    ∷ codes "reopen not down" ∷ codes "recover all fault" ∷ codes "join all not recovered" ∷ [])
unfolding digits
unrecovered_report = refl

-- an instance is recovered by another and joins; a recovery stops behind its steps, isn't begun again, and lets its instance not
-- join; and a page that a recovery needs can't be pulled
abbrev survived : List ℕ
survived =
    report
    (at 1 (form.Complex 3 1 2) ∷ at 2 (form.Fail 1) ∷ at 3 (form.Recover 1 2 None) ∷ at 4 (form.Join 1) ∷ at 5 (form.Fail 2)
    ∷ at 6 (form.Recover 2 1 (Some 1)) ∷ at 7 (form.Recover 2 3 None) ∷ at 8 (form.Join 2) ∷ at 9 (form.Fail 3)
    ∷ at 10 (form.Recover 3 1 (Some 2)) ∷ [])
    (noted 2 (event.Fail 1) reply.Did ∷ noted 3 (event.RecoverBegin 1 2) reply.Did ∷ noted 3 (event.RecoverStep 1) reply.Step
    ∷ noted 3 (event.RecoverStep 1) reply.Finished ∷ noted 4 (event.Join 1) (reply.Joined 2) ∷ noted 5 (event.Fail 2) reply.Did
    ∷ noted 6 (event.RecoverBegin 2 1) reply.Did ∷ noted 6 (event.RecoverStep 2) reply.Step
    ∷ noted 7 (event.RecoverBegin 2 3) (reply.Refused (refusal.NotDown (status.Recovering 1)))
    ∷ noted 8 (event.Join 2) (reply.Refused (refusal.NotRecovered (status.Recovering 1))) ∷ noted 9 (event.Fail 3) reply.Did
    ∷ noted 10 (event.RecoverBegin 3 1) reply.Did ∷ noted 10 (event.RecoverStep 3) reply.Step
    ∷ noted 10 (event.RecoverStep 3) (reply.Refused (refusal.NeedPage place.Free))
    ∷ noted 0 (event.Ask 1 0 mode.Excl) (reply.Refused refusal.Failed)
    ∷ noted 10 (event.RecoverStep 3) (reply.Refused (refusal.NeedPage place.Free)) ∷ [])

survived_report : survived ≡ text (
    codes "complex 3 1 2" ∷ codes "fail 1" ∷ codes "recover 1 by 2" ∷ codes "join 1 epoch 2" ∷ codes "fail 2"
    ∷ codes "recover 2 by 1 part" ∷ codes "recover 2 not down" ∷ codes "join 2 not recovered" ∷ codes "fail 3"
    ∷ codes "recover 3 fault" ∷ [])
unfolding digits
survived_report = refl
