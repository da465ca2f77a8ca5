-- A hall in which nothing has happened has an opening to come, and nobody is out behind that. It serves the goals of `opening` in opening.rt.
use Rattle.std.proofs.Common.{◌≡◌, ⊎_elim, List, [], length, sym, ap, ◌∙◌, subst, arith, refl}
use Rattle.sd_model.specs.declared.event.Entry.{Entry}
use Rattle.sd_model.specs.Applies.{IsRecovering}
use Rattle.sd_pagelock.specs.Places.{PageEntry, uses}
use Rattle.sd_script.specs.declared.line.Line.{Line}
use Rattle.sd_world.specs.Laws.{IsOut}
use Rattle.sd_world.specs.Leading.{Leads}
use Rattle.sd_world.specs.Serving.{Core, Telling}
use Rattle.sd_hall.specs.Bodies.{fits_in}
use Rattle.sd_hall.specs.Keeping.{Keeps}
use Rattle.sd_drive.specs.Behind.{HasRecovered, IsToOpen, IsUnused, NoneIsOut, OnlyUpHave}
use Rattle.sd_drive.specs.Driving.{Work, World}
use Rattle.sd_drive.specs.Rising.{HasRisen, before, begin_of}
use Rattle.sd_drive.specs.declared.opening.Rise.{Rise}
use Rattle.sd_drive.proofs.Behind.{opening-recovers}
use Rattle.sd_drive.proofs.Bodies.{asks-are, entry-is, fits-now, status-is}
use Rattle.sd_drive.proofs.Onward.{behind-once}
use Rattle.sd_drive.proofs.Singles.{yes_no}

module _ {G : Type 0} (tell : Telling G) (old : Rise G) (start : Core) (k : Keeps tell start old.hall) (empty : old.hall.book.entries ≡ [])
    (unused : IsUnused old.hall.body) (lines : List Line) where
  fits-first : fits_in tell.seen tell.leaves old.hall.body start
  fits-first =
      let core : start ≡ k.core = subst (λ (es : List Entry). Leads start es k.core) empty k.leads in
      subst (λ (w : Core). fits_in tell.seen tell.leaves old.hall.body w) (sym core) k.fits

  to-open : IsToOpen lines (before old.insts old.pages lines start)
  to-open = record {
    left = refl;
    begins = refl;
    idle = refl;
    unfailed = refl;
    stands = λ shut. unused.stands (status-is tell old.hall.body start fits-first 1 (omega arith) (omega arith) ∙ shut);
    unrecovered = λ i low high runs. unused.unrecovered i low high
        (subst IsRecovering (sym (status-is tell old.hall.body start fits-first i low high)) runs);
    nowhere = λ p. let n = unused.nowhere p in (n.0, entry-is tell old.hall.body start fits-first p ∙ n.1);
    unasked = λ p. asks-are tell old.hall.body start fits-first p ∙ unused.unasked p;
  }

  module _ (rig : G) (new : Rise G) (w : World) (h : HasRisen tell (begin_of old lines start rig) lines new w) where
    both : NoneIsOut w.core.scene.state × OnlyUpHave w.core.scene.state w.core.pages
    both = ⊎_elim
        (λ failed. yes_no failed h.unfailed)
        (λ went. ⊎_elim
        (λ under.
        let here = ap (λ (l : List Work). length l) under.left in
        let there = ap (λ (l : List Work). length l) h.left in
        absurd (omega (arith, here, there)))
        (λ passes. behind-once lines passes.back passes.mid w passes.behind h.left h.rests passes.goes_on)
        went)
        (opening-recovers lines (before old.insts old.pages lines start) w new.hall.book.entries to-open h.there.ran.drives)

    fits-last : fits_in tell.seen tell.leaves new.hall.body w.core
    fits-last = fits-now tell (begin_of old lines start rig) new.hall w h.there

    pub risen-recovers : HasRecovered new.hall.body
    risen-recovers = record {
      recovered = λ i low high out. both.0 i low high (subst IsOut (status-is tell new.hall.body w.core fits-last i low high) out);
      emptied = λ p k low high below used. status-is tell new.hall.body w.core fits-last k low high
          ∙ both.1 p k below (ap (λ (e : PageEntry). uses e k) (entry-is tell new.hall.body w.core fits-last p) ∙ used);
    }
