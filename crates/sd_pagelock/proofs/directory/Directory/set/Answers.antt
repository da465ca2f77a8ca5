use Rattle.std.proofs.Common.{◌≡◌, ℕ, Bool, true, false, cond, Option, None, ⊎_elim, refl, sym, ap, ◌∙◌}
use Rattle.std.specs.Prelude.{is_some}
use Rattle.std.proofs.lemmas.Bool.{cases_eq}
use Rattle.sd_pagelock.specs.Places.{changed, seen}
use Rattle.sd_pagelock.specs.Directory.{entry_at, rec_lsn_at}
use Rattle.sd_pagelock.proofs.Forms.{formed-move}
use Rattle.sd_pagelock.specs.Asks.{asks_for, open_asks}
use Rattle.sd_pagelock.proofs.Rooms.{room-left}
use Rattle.sd_pagelock.proofs.directory.Directory.set.Goals as goal

-- a page that is changed after a move has a RecLSN, and no other has
kept-marked : (was is : Bool) (old rec : Option ℕ) → is_some old ≡ was → (was ≡ false → is ≡ true → is_some rec ≡ true)
    → is_some (cond {A = Option ℕ} is (cond {A = Option ℕ} was old rec) None) ≡ is
kept-marked was false old rec marked first = refl
kept-marked true true old rec marked first = marked
kept-marked false true old rec marked first = first refl refl

pub write-requires-clause-formed : goal.write-requires-clause-formed
write-requires-clause-formed g c = formed-move (entry_at c.args.self.now c.args.p) (seen c.args.to) c.requires.lawful (c.keeps.ensures.formed c.args.p)

pub write-requires-clause-marked : goal.write-requires-clause-marked
write-requires-clause-marked g c =
    let m = c.args.self.now in
    let p = c.args.p in
    ap is_some c.kept_rec-rec.ensures
    ∙ kept-marked (changed (entry_at m p)) (changed (seen c.args.to)) (rec_lsn_at m p) c.args.rec
    (c.keeps.ensures.marked p) c.requires.first

pub invariant_of-self : goal.invariant_of-self
invariant_of-self g c = (
  c.self.invariant.0,
  room-left _ _ _ _ c.self.invariant.1 (λ q none. ⊎_elim
      (λ e. ap (asks_for c.close.new.self) e ∙ c.close.ensures.here ∙ ap (open_asks (seen c.args.to)) (ap (asks_for c.self.inside.asks) (sym e) ∙ none))
      (λ ne. c.close.ensures.others q ne ∙ none)
      (cases_eq q c.args.p)),
)
