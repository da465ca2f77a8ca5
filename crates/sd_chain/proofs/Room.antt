-- Room for an undo, and for the end of a transaction: what was reserved for them is as long as they are. For the laws `undo`
-- and `seal`.
use Rattle.std.proofs.Common.{◌≡◌, ℕ, ◌+◌, ◌≤◌, true, List, ◌∷◌, length, ap, arith, suc, [], ◌++◌}
use Rattle.sd_logrec.specs.declared.record.Record.{Record}
use Rattle.sd_logrec.specs.declared.record.Record.TheVariants as records
use Rattle.sd_logrec.specs.Spelling.{spelling}
use Rattle.sd_logrec.specs.View.{flat}
use Rattle.sd_logrec.specs.View.Kind.{Clr}
use Rattle.sd_logrec.proofs.Lengths.{length-spelling}
use Rattle.sd_base.specs.Values.{size}
use Rattle.sd_log.specs.Logs.{LogState, forced, needed}
use Rattle.sd_chain.specs.Checks.{reserve, owed}
use Rattle.sd_chain.specs.Records.{ends}
use Rattle.sd_chain.specs.Logs.{all_at}
use Rattle.sd_chain.specs.Soundly.{LogIsSound}
use Rattle.sd_chain.specs.Appends.{IsEnd, IsUndo}
use Rattle.sd_chain.specs.ChecksKept.{EndHasRoom, UndoHasRoom}
use Rattle.sd_chain.proofs.Kept.{forced-base, forced-gate}
use Rattle.sd_chain.proofs.Order.{undoes-top}
use Rattle.sd_chain.proofs.Owing.{end-owes, undo-owes}

-- room that was reserved, with a group's head
pub reserved-room : (j : ℕ) (bytes : List ℕ) (l : LogState) (n less : ℕ) → LogIsSound j bytes (forced l)
    → less + n + 5 ≤ reserve (all_at l) → needed l n less ≤ 1048576
reserved-room j bytes l n less s fits =
    let room = s.room in
    let gate = forced-gate l in
    let same = ap reserve (forced-base l) in
    omega (arith, room, gate, same, fits)

-- the bytes of an undo
pub clr-len : (r : Record) → (flat r).kind ≡ Clr → length (spelling r) ≡ 42 + size (flat r).after
clr-len (records.Start l epoch) k = absurd (cc)
clr-len (records.Update l txn prev page slot capacity before after) k = absurd (cc)
clr-len (records.Clr l txn prev undo_next page slot after) k =
    length-spelling (records.Clr l txn prev undo_next page slot after)
clr-len (records.Commit l txn prev) k = absurd (cc)
clr-len (records.End l txn prev) k = absurd (cc)
clr-len (records.BeginCheck l) k = absurd (cc)
clr-len (records.EndCheck l begin spans recs) k = absurd (cc)

-- and of an end
pub end-len : (r : Record) → ends (flat r).kind ≡ true → length (spelling r) ≡ 26
end-len (records.Start l epoch) k = absurd (cc)
end-len (records.Update l txn prev page slot capacity before after) k = absurd (cc)
end-len (records.Clr l txn prev undo_next page slot after) k = absurd (cc)
end-len (records.Commit l txn prev) k = length-spelling (records.Commit l txn prev)
end-len (records.End l txn prev) k = length-spelling (records.End l txn prev)
end-len (records.BeginCheck l) k = absurd (cc)
end-len (records.EndCheck l begin spans recs) k = absurd (cc)

-- With an undo a log owes less, by the record with a group's head, and by a record.
pub undo-falls : (l : LogState) (y : Record) → IsUndo y l
    → (reserve (all_at l ++ flat y ∷ []) + length (spelling y) + 5 ≤ reserve (all_at l))
    × (suc (owed (all_at l ++ flat y ∷ [])) ≤ owed (all_at l))
undo-falls l y u =
    let falls = undo-owes (all_at l) (flat y) u.top u.below u.kind u.follows.alive u.stack in
    let undoes = undoes-top (all_at l) (flat y) u.top u.below u.kind u.follows u.stack in
    let value : size (flat y).after ≡ size u.top.before = ap size undoes.2 in
    let len = clr-len y u.kind in
    let f0 = falls.0 in let f1 = falls.1 in
    (omega (arith, f0, value, len), omega (arith, f1))

-- And so with the end of a transaction that has a record.
pub end-falls : (l : LogState) (y : Record) → IsEnd y l
    → (reserve (all_at l ++ flat y ∷ []) + length (spelling y) + 5 ≤ reserve (all_at l))
    × (suc (owed (all_at l ++ flat y ∷ [])) ≤ owed (all_at l))
end-falls l y e =
    let falls = end-owes (all_at l) (flat y) e.ends e.alive e.there in
    let len = end-len y e.ends in
    let f0 = falls.0 in let f1 = falls.1 in
    (omega (arith, f0, len), f1)

-- so there is room for an undo
pub undo-room : UndoHasRoom
undo-room i bytes l y s u = let falls = (undo-falls l y u).0 in
    reserved-room i bytes l (length (spelling y)) 0 s (omega (arith, falls))

-- and for an end
pub end-room : EndHasRoom
end-room i bytes l y s e = let falls = (end-falls l y e).0 in
    reserved-room i bytes l (length (spelling y)) 0 s (omega (arith, falls))
