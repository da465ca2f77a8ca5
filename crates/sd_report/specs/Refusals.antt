-- The text of each refusal: its words, and the arguments behind them.
use Rattle.std.specs.Prelude.{ℕ, ◌-◌, Bool, true, false, List, [], ◌∷◌, ◌++◌, Option, None, Some, length, take, codes}
use Rattle.std.specs.List.{flat_map}
use Rattle.std.specs.Fmt.{decimal}
use Rattle.sd_base.specs.declared.refusal.LineError.{LineError}
use Rattle.sd_base.specs.declared.refusal.Refusal.{Refusal}
use Rattle.sd_base.specs.declared.refusal.Refusal.TheVariants as refusal
use Rattle.sd_model.specs.declared.event.Event.{Event}
use Rattle.sd_model.specs.declared.event.Event.TheVariants as event
use Rattle.sd_report.specs.Words.{NamesOf, spelled}

abbrev pub cause_word : LineError → List ℕ
cause_word LineError.Size = codes "size"
cause_word LineError.Byte = codes "byte"
cause_word LineError.Order = codes "order"
cause_word LineError.Word = codes "word"
cause_word LineError.Number = codes "number"
cause_word LineError.Name = codes "name"
cause_word LineError.Place = codes "place"
cause_word LineError.Used = codes "used"
cause_word LineError.Unknown = codes "unknown"

-- the words of a refusal
abbrev pub refusal_words : Refusal → List ℕ
refusal_words refusal.Failed = codes "fault"
refusal_words refusal.PageFull = codes "full"
refusal_words refusal.NoRecord = codes "no record"
refusal_words refusal.TooLong = codes "too long"
refusal_words (refusal.BadRecord at) = codes "bad record"
refusal_words refusal.LogFull = codes "log full"
refusal_words refusal.LsnEnd = codes "lsn end"
refusal_words (refusal.BadLog at) = codes "bad log"
refusal_words refusal.PoolFull = codes "pool full"
refusal_words (refusal.Blocked by) = codes "wait for"
refusal_words (refusal.Deadlock cycle) = codes "deadlock"
refusal_words refusal.TooManyTxns = codes "too many"
refusal_words refusal.NoSavepoint = codes "no savepoint"
refusal_words (refusal.NeedPage place) = codes "need"
refusal_words refusal.Down = codes "down"
refusal_words refusal.Lost = codes "lost"
refusal_words (refusal.Busy by) = codes "busy"
refusal_words refusal.CutCommit = codes "cut"
refusal_words refusal.NotAsked = codes "not asked"
refusal_words refusal.Dirty = codes "dirty"
refusal_words (refusal.MovingTo to) = codes "moving"
refusal_words refusal.NoCheck = codes "no check"
refusal_words (refusal.NotDown status) = codes "not down"
refusal_words (refusal.NotRecovered status) = codes "not recovered"
refusal_words (refusal.Damaged dev at) = codes "damaged"
refusal_words (refusal.BadLine line cause) = codes "bad line"
refusal_words refusal.NoTxn = codes "ended"
refusal_words refusal.NotNumber = codes "not a number"
refusal_words refusal.Memory = codes "no memory"

-- The page that an event names. An undo and a step of a recovery name none, though they may need one: their refusals
-- tell no page.
abbrev pub page_of : Event → Option ℕ
page_of (event.Read txn rid) = Some rid.page
page_of (event.Write txn rid value) = Some rid.page
page_of (event.Add txn rid by) = Some rid.page
page_of (event.Delete txn rid) = Some rid.page
page_of (event.Insert txn page value capacity) = Some page
page_of (event.List inst page) = Some page
page_of (event.Ask inst page mode) = Some page
page_of (event.Give inst page) = Some page
page_of (event.Take inst page) = Some page
page_of (event.Evict inst page) = Some page
page_of (event.Flush inst page) = Some page
page_of (event.Show page) = Some page
page_of e = None

-- a page that is named, behind a space
abbrev pub page_text : Option ℕ → List ℕ
page_text None = []
page_text (Some page) = 32 ∷ decimal page

-- what stands behind the words of a refusal of the event; a cycle is told without its last, which is its first
abbrev pub arguments : NamesOf → Event → Refusal → List ℕ
arguments names e (refusal.BadRecord at) = 32 ∷ decimal at
arguments names e (refusal.BadLog at) = 32 ∷ decimal at
arguments names e (refusal.Blocked by) = 32 ∷ spelled names by
arguments names e (refusal.Deadlock cycle) = flat_map (λ t. 32 ∷ spelled names t) (take (length cycle - 1) cycle)
arguments names e (refusal.NeedPage place) = page_text (page_of e)
arguments names e refusal.Lost = page_text (page_of e)
arguments names e (refusal.Busy by) = 32 ∷ spelled names by
arguments names e refusal.NotAsked = page_text (page_of e)
arguments names e refusal.Dirty = page_text (page_of e)
arguments names e (refusal.MovingTo to) = page_text (page_of e) ++ codes " to" ++ 32 ∷ decimal to
arguments names e (refusal.Damaged dev at) = 32 ∷ decimal dev ++ 32 ∷ decimal at
arguments names e (refusal.BadLine line cause) = 32 ∷ decimal line ++ 32 ∷ cause_word cause
arguments names e n = []

-- the text of a refusal of the event
abbrev pub refusal_text : NamesOf → Event → Refusal → List ℕ
refusal_text names e n = refusal_words n ++ arguments names e n

-- whether a refusal tells a transaction
abbrev pub tells_txn : Refusal → Bool
tells_txn (refusal.Blocked by) = true
tells_txn (refusal.Busy by) = true
tells_txn (refusal.Deadlock cycle) = true
tells_txn n = false
