-- A driver of a hall that rose stands before the first line. It serves the goals of `new` in driver.rt.
use Rattle.std.proofs.Common.{◌≡◌, ℕ, List, [], length, sym, ap, ap₂, ◌∙◌, subst}
use Rattle.sd_script.specs.declared.line.Line.{Line}
use Rattle.sd_world.specs.Serving.{Telling}
use Rattle.sd_hall.specs.declared.hall.Hall.{Hall}
use Rattle.sd_drive.specs.Driven.{IsIn}
use Rattle.sd_drive.specs.Driving.{Known, Work, World, ahead, untold}
use Rattle.sd_drive.specs.Running.{Start}
use Rattle.sd_drive.specs.declared.opening.Rise.{Rise}
use Rattle.sd_drive.specs.Rising.{HasRisen}
use Rattle.sd_drive.specs.declared.driver.Driver.{Driver}
use Rattle.sd_drive.specs.Reaching.{Reached}

module _ {G : Type 0} (tell : Telling G) (rise : Rise G) (driver : Driver G) (hall : driver.hall ≡ rise.hall) (insts : driver.insts ≡ rise.insts)
    (pages : driver.pages ≡ rise.pages) (none : driver.txns.items ≡ []) where
  pub reached-first : (start : Start G) (lines : List Line) (w : World) → HasRisen tell start lines rise w → Reached tell start lines 0 driver w
  reached-first start lines w r = record {
    there = subst (λ (h : Hall G). IsIn tell start h w) (sym hall) r.there;
    rests = r.rests;
    idle = r.idle;
    unfailed = r.unfailed;
    left = ap (λ (works : List Work). ahead w.core.scene.state w.told.known works) r.left;
    knows = record {
      insts = ap (λ (k : Known). k.insts) known-is;
      pages = ap (λ (k : Known). k.pages) known-is;
      names = λ q. sym (ap (λ (k : Known). k.names q) known-is);
      count = ap (λ ts. length ts) none;
    };
  }
    where
      known-is : w.told.known ≡ (untold driver.insts driver.pages lines).known
      known-is = r.known ∙ ap₂ (λ (i p : ℕ). (untold i p lines).known) (sym insts) (sym pages)
