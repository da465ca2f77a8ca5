-- The kinds of lines: what each word of one is.
use Rattle.std.specs.Prelude.{ℕ, List, [], ◌∷◌, codes}
use Rattle.sd_script.specs.declared.kinds.Fixed.{Fixed}
use Rattle.sd_script.specs.declared.kinds.Fixed.TheVariants as word
use Rattle.sd_script.specs.declared.kinds.Part.{Part}
use Rattle.sd_script.specs.declared.kinds.Part.TheVariants as part
use Rattle.sd_script.specs.declared.kinds.LineKind.{LineKind}
use Rattle.sd_script.specs.declared.kinds.LineKind.TheVariants as kind

-- the bytes of a word that is itself
abbrev pub text_of : Fixed → List ℕ
text_of word.Complex = codes "complex"
text_of word.Begin = codes "begin"
text_of word.Read = codes "read"
text_of word.Write = codes "write"
text_of word.Add = codes "add"
text_of word.Insert = codes "insert"
text_of word.Delete = codes "delete"
text_of word.Save = codes "save"
text_of word.Back = codes "back"
text_of word.Rollback = codes "rollback"
text_of word.Commit = codes "commit"
text_of word.Ask = codes "ask"
text_of word.Give = codes "give"
text_of word.Take = codes "take"
text_of word.Evict = codes "evict"
text_of word.Flush = codes "flush"
text_of word.Force = codes "force"
text_of word.Check = codes "check"
text_of word.End = codes "end"
text_of word.Fail = codes "fail"
text_of word.Fuse = codes "fuse"
text_of word.Fault = codes "fault"
text_of word.All = codes "all"
text_of word.Recover = codes "recover"
text_of word.By = codes "by"
text_of word.Join = codes "join"
text_of word.Reopen = codes "reopen"
text_of word.Where = codes "where"
text_of word.Table = codes "table"

-- the words of a line of this kind, one after another
abbrev pub parts_of : LineKind → List Part
parts_of kind.Complex = part.Fixed word.Complex ∷ part.Insts ∷ part.Count ∷ part.Count ∷ []
parts_of kind.Begin = part.Lead ∷ part.Fixed word.Begin ∷ part.Begins ∷ []
parts_of kind.Read = part.Fixed word.Read ∷ part.Begun ∷ part.Record ∷ []
parts_of kind.Write = part.Fixed word.Write ∷ part.Begun ∷ part.Record ∷ part.Value ∷ []
parts_of kind.Add = part.Fixed word.Add ∷ part.Begun ∷ part.Record ∷ part.Amount ∷ []
parts_of kind.Insert = part.Fixed word.Insert ∷ part.Begun ∷ part.Page ∷ part.Value ∷ []
parts_of kind.InsertWithCapacity = part.Fixed word.Insert ∷ part.Begun ∷ part.Page ∷ part.Value ∷ part.Capacity ∷ []
parts_of kind.Delete = part.Fixed word.Delete ∷ part.Begun ∷ part.Record ∷ []
parts_of kind.Save = part.Fixed word.Save ∷ part.Begun ∷ part.Mark ∷ []
parts_of kind.Back = part.Fixed word.Back ∷ part.Begun ∷ part.Mark ∷ []
parts_of kind.Rollback = part.Fixed word.Rollback ∷ part.Begun ∷ []
parts_of kind.Commit = part.Fixed word.Commit ∷ part.Begun ∷ []
parts_of kind.Ask = part.Lead ∷ part.Fixed word.Ask ∷ part.Page ∷ part.Mode ∷ []
parts_of kind.Give = part.Lead ∷ part.Fixed word.Give ∷ part.Page ∷ []
parts_of kind.Take = part.Lead ∷ part.Fixed word.Take ∷ part.Page ∷ []
parts_of kind.Evict = part.Lead ∷ part.Fixed word.Evict ∷ part.Page ∷ []
parts_of kind.Flush = part.Lead ∷ part.Fixed word.Flush ∷ part.Page ∷ []
parts_of kind.Force = part.Lead ∷ part.Fixed word.Force ∷ []
parts_of kind.CheckBegin = part.Lead ∷ part.Fixed word.Check ∷ part.Fixed word.Begin ∷ []
parts_of kind.CheckEnd = part.Lead ∷ part.Fixed word.Check ∷ part.Fixed word.End ∷ []
parts_of kind.Fail = part.Fixed word.Fail ∷ part.Inst ∷ []
parts_of kind.Fuse = part.Fixed word.Fuse ∷ part.Calls ∷ []
parts_of kind.Fault = part.Fixed word.Fault ∷ part.Call ∷ []
parts_of kind.FailAll = part.Fixed word.Fail ∷ part.Fixed word.All ∷ part.Pick ∷ []
parts_of kind.Recover = part.Fixed word.Recover ∷ part.Failed ∷ part.Fixed word.By ∷ part.Inst ∷ []
parts_of kind.RecoverInSteps = part.Fixed word.Recover ∷ part.Failed ∷ part.Fixed word.By ∷ part.Inst ∷ part.Steps ∷ []
parts_of kind.Join = part.Fixed word.Join ∷ part.Inst ∷ []
parts_of kind.Reopen = part.Fixed word.Reopen ∷ []
parts_of kind.RecoverAll = part.Fixed word.Recover ∷ part.Fixed word.All ∷ []
parts_of kind.JoinAll = part.Fixed word.Join ∷ part.Fixed word.All ∷ []
parts_of kind.Where = part.Fixed word.Where ∷ part.Page ∷ []
parts_of kind.Table = part.Fixed word.Table ∷ []
