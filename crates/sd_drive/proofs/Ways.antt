-- What follows of a run that goes from entry to entry: its worlds, its faults, and where each image on the way stands. It serves the goal of
-- laws.rt, and whoever tells of a run.
use Rattle.std.proofs.Common.{◌⊎◌, inl, inr, ⊎_elim, ℕ, ◌≤◌, List, [], ◌∷◌, refl, ap, subst, arith}
use Rattle.sd_rig.specs.Devices.{DeviceImages}
use Rattle.sd_model.specs.declared.event.Entry.{Entry}
use Rattle.sd_world.specs.Serving.{Telling}
use Rattle.sd_fits.specs.Serving.{stands_for}
use Rattle.sd_drive.specs.Driving.{Advances, Drives, World}
use Rattle.sd_drive.specs.Running.{FaultsOf, Goes, RunsHaveWay, StandsOnWay}

-- ---- images on the way

-- what stands for the first world is on the way
way-begins : (es : List Entry) (w w' : World) (img : DeviceImages) → Drives w es w' → stands_for img w.core.scene.state → StandsOnWay w es w' img
way-begins es w w' img d s = record { front = []; rest = es; parts = refl; world = w; before = refl; behind = d; stands = s }

-- so is what is on the way from the next one
way-later : (e : Entry) (es : List Entry) (w next w' : World) (img : DeviceImages) → Advances w e next → StandsOnWay next es w' img
    → StandsOnWay w (e ∷ es) w' img
way-later e es w next w' img adv s = record {
  front = e ∷ s.front;
  rest = s.rest;
  parts = ap (λ (l : List Entry). e ∷ l) s.parts;
  world = s.world;
  before = (next, adv, s.before);
  behind = s.behind;
  stands = s.stands;
}

module _ {G : Type 0} (tell : Telling G) where
  pub goes-drives : (es : List Entry) (w w' : World) (rig rig' : G) → Goes tell w rig es w' rig' → Drives w es w'
  goes-drives [] w w' rig rig' g = g.0
  goes-drives (e ∷ es) w w' rig rig' g = (g.0, g.2, goes-drives es g.0 w' g.1 rig' g.4)

  pub goes-faults : (es : List Entry) (w w' : World) (rig rig' : G) → Goes tell w rig es w' rig' → FaultsOf es (tell.faults rig) (tell.faults rig')
  goes-faults [] w w' rig rig' g = ⊎_elim (λ same. ap tell.faults same) (λ s. s.quiet) g.1
  goes-faults (e ∷ es) w w' rig rig' g = (tell.faults g.1, g.3.told, goes-faults es g.0 w' g.1 rig' g.4)

  -- An image that a crash may have left since a moment is one of those from before the entries, or is on their way.
  pub goes-way : (es : List Entry) (w w' : World) (rig rig' : G) → Goes tell w rig es w' rig' → (t : ℕ) (img : DeviceImages) → t ≤ tell.moment rig
      → tell.since rig' t img → tell.since rig t img ⊎ StandsOnWay w es w' img
  goes-way [] w w' rig rig' g t img le left = ⊎_elim
      (λ same. inl (subst (λ (d : G). tell.since d t img) same left))
      (λ s. ⊎_elim (λ before. inl before)
      (λ now. inr (way-begins [] w w' img g.0 (⊎_elim (λ x. x) (λ x. x) (s.passes.span.each img now))))
      (s.passes.time.splits t img le left))
      g.1
  goes-way (e ∷ es) w w' rig rig' g t img le left =
      let later = g.3.passes.time.later in
      let behind = goes-drives es g.0 w' g.1 rig' g.4 in
      ⊎_elim
      (λ before. ⊎_elim (λ first. inl first)
      (λ now. inr (⊎_elim
      (λ s. way-begins (e ∷ es) w w' img (g.0, g.2, behind) s)
      (λ s. way-later e es w g.0 w' img g.2 (way-begins es g.0 w' img behind s))
      (g.3.passes.span.each img now)))
      (g.3.passes.time.splits t img le before))
      (λ way. inr (way-later e es w g.0 w' img g.2 way))
      (goes-way es g.0 w' g.1 rig' g.4 t img (omega (arith, le, later)) left)

  pub runs-way : RunsHaveWay tell
  runs-way start rig entries last r =
      let drives = goes-drives entries start.world last start.rig rig r.goes in
      record {
        drives = drives;
        faults = goes-faults entries start.world last start.rig rig r.goes;
        moments = record {
          each = λ img left. ⊎_elim
              (λ first. way-begins entries start.world last img drives (r.stood img first))
              (λ way. way)
              (goes-way entries start.world last start.rig rig r.goes (tell.moment start.rig) img (omega arith) left);
        };
      }
