-- What is kept in few bytes tells no transaction. It serves a goal of names_for.
use Rattle.std.proofs.Common.{◌≡◌, ℕ, Bool, true, false, ◌||◌, List, [], ◌∷◌, refl, ap, ◌∙◌}
use Rattle.sd_model.specs.declared.event.Entry.{Entry}
use Rattle.sd_model.specs.declared.line.LineEntry.{LineEntry}
use Rattle.sd_model.specs.declared.line.LineEntry.TheVariants as line
use Rattle.sd_model.specs.declared.packed.Answer.{Answer}
use Rattle.sd_model.specs.declared.packed.Answer.TheVariants as answer
use Rattle.sd_model.specs.declared.packed.Noted.{Noted}
use Rattle.sd_model.specs.declared.packed.Noted.TheVariants as noted
use Rattle.sd_model.specs.Shorts.{line_entry, reply_of}
use Rattle.sd_model.specs.Booked.{unpacked}
use Rattle.sd_report.specs.Report.{reply_tells_txn, tell_txns}

short_tells : (l : LineEntry) → reply_tells_txn (line_entry l).reply ≡ false
short_tells (line.Begin session at number txn) = refl
short_tells (line.Read session number txn rid count value) = refl
short_tells (line.Miss session number txn rid) = refl
short_tells (line.Write session number txn rid count value) = refl
short_tells (line.Add session number txn rid by) = refl
short_tells (line.Insert session capacity number txn rid count value) = refl
short_tells (line.Delete session number txn rid) = refl
short_tells (line.Commit session number txn) = refl

help_tells : (a : Answer) (named : ℕ) → reply_tells_txn (reply_of a named) ≡ false
help_tells answer.Did named = refl
help_tells answer.Have named = refl
help_tells answer.Asked named = refl
help_tells answer.Gave named = refl
help_tells answer.MovingTo named = refl
help_tells answer.PoolFull named = refl

-- of the first of some entries and of the others
neither : (tells others : Bool) → (tells || others) ≡ false → (tells ≡ false) × (others ≡ false)
neither true others none = absurd (cc)
neither false others none = (refl, none)

-- where none that stands whole tells a transaction, none does
pub none_tells : (notes : List Noted) (lines : List LineEntry) (whole : List Entry) → tell_txns whole ≡ false
    → tell_txns (unpacked notes lines whole) ≡ false
none_tells [] lines whole none = none
none_tells (noted.Help s p i d a n ∷ notes) lines whole none =
    ap (λ (b : Bool). b || tell_txns (unpacked notes lines whole)) (help_tells a n) ∙ none_tells notes lines whole none
none_tells (noted.Line ∷ notes) [] whole none = refl
none_tells (noted.Line ∷ notes) (l ∷ lines) whole none =
    ap (λ (b : Bool). b || tell_txns (unpacked notes lines whole)) (short_tells l) ∙ none_tells notes lines whole none
none_tells (noted.Whole ∷ notes) lines [] none = refl
none_tells (noted.Whole ∷ notes) lines (e ∷ whole) none =
    let parts = neither (reply_tells_txn e.reply) (tell_txns whole) none in
    ap (λ (b : Bool). b || tell_txns (unpacked notes lines whole)) parts.0 ∙ none_tells notes lines whole parts.1
