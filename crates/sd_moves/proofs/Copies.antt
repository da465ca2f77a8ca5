-- The copies of a page, in a pool and on their way, as calls lend them. For the goals of passing.rt, and for what shows a page.
use Rattle.std.proofs.Common.{◌≡◌, ◌≢◌, ℕ, ◌-◌, ◌≤◌, true, false, get_or, refl, sym, ap, ◌∙◌, Bor}
use Rattle.std.proofs.Math.ListN.{get_or-map}
use Rattle.std.specs.Box.{box_value}
use Rattle.std.specs.Global.{Box}
use Rattle.std.specs.Prelude.{Option, None, Some, IsSome, option_copied, option_map}
use Rattle.sd_page.specs.Page.{Page}
use Rattle.sd_rig.specs.Devices.{DeviceImages}
use Rattle.sd_model.specs.State.{State}
use Rattle.sd_pagelock.specs.Directory.{DirectoryState, entry_at, moving_image_at}
use Rattle.sd_pagelock.specs.Places.{holds, passes}
use Rattle.sd_pool.specs.Buffers as buffers
use Rattle.sd_pool.specs.Buffers.{Buffers}
use Rattle.sd_chain.proofs.OneUpdater.{moving-newest}
use Rattle.sd_chain.specs.Logs.{Outcomes, may_of}
use Rattle.sd_state.specs.Complexes.{parts, unboxed}
use Rattle.sd_state.specs.Good.{Good, base_of, dir_of}
use Rattle.sd_state.specs.Images.{leaves_by}
use Rattle.sd_state.specs.Laws.{newest_of}
use Rattle.sd_state.specs.Parts.{Parts, log_at, pool_at}
use Rattle.sd_state.specs.Values.{Pending}
use Rattle.sd_state.specs.declared.complex.Complex.{Complex}
use Rattle.sd_state.proofs.Locks.{pool-lent}
use Rattle.sd_state.proofs.Standing.{each-copy-is-newest}
use Rattle.sd_state.proofs.Unboxed.{image-unboxed}
use Rattle.sd_moves.specs.Passing.{IsOnWay}

-- ---- what is lent of a copy

some-lent : {A : Type 0} (o : Option (Bor A)) (x : A) → option_copied o ≡ Some x → IsSome o
some-lent None x is = absurd (cc)
some-lent (Some b) x is = refl

lent-is : {A : Type 0} (o : Option (Bor A)) (x : A) → option_copied o ≡ Some x → (b : Bor A) → o ≡ Some b → b.now ≡ x
lent-is o x is b lent = let here : Some b.now ≡ Some x = sym (ap option_copied lent) ∙ is in cc

-- what a box has
record Boxed (o : Option (Box Page)) (x : Page) : Type 0 where
  box : Box Page
  there : o ≡ Some box
  value : box.value ≡ x

boxed : (o : Option (Box Page)) (x : Page) → option_map box_value o ≡ Some x → Boxed o x
boxed None x is = absurd (cc)
boxed (Some box) x is = record { box = box; there = refl; value = cc }

-- then the box is there
some-boxed : (o : Option (Box Page)) (x : Page) → Boxed o x → IsSome o
some-boxed None x has = let clash : None ≡ Some has.box = has.there in absurd (cc)
some-boxed (Some box) x has = refl

-- what is on its way, out of its box
pub way-unboxed : (p : ℕ) (image : Option Page) (d e : DirectoryState (Box Page)) → option_map box_value (moving_image_at e p) ≡ image
    → ((q : ℕ) → q ≢ p → moving_image_at e q ≡ moving_image_at d q) → IsOnWay p image (unboxed d) (unboxed e)
way-unboxed p image d e here others = record {
  here = get_or-map (option_map box_value) e.images p None ∙ here;
  others = λ q ne. image-unboxed d e q (others q ne);
}

module _ (seen_now : DeviceImages) (leaves : Outcomes) (pend : Pending) (p : ℕ) where
  abbrev newest : Parts → Page
  newest c = newest_of seen_now leaves c p

  -- ---- a copy in a pool

  module _ (c : Parts) (m : State) (g : Good seen_now leaves pend c m) (i at : ℕ) (low : 1 ≤ i) (high : i ≤ 8)
      (place : at ≡ i - 1) (pool : Buffers) (lent : pool ≡ get_or c.pools at pool)
      (held : holds (entry_at c.directory p) i ≡ true) where
    same-pool : pool_at c i ≡ pool
    same-pool = pool-lent c i at pool low high g.shape.pools place lent

    in-pool : buffers.image_at pool p ≡ Some (newest c)
    in-pool = ap (λ (b : Buffers). buffers.image_at b p) (sym same-pool) ∙ (each-copy-is-newest leaves seen_now pend c m g p i).0 held

    module _ (o : Option (Bor Page)) (looked : option_copied o ≡ buffers.image_at pool p) where
      -- who holds the page has a copy,
      pub pooled-there : IsSome o
      pooled-there = some-lent o (newest c) (looked ∙ in-pool)

      -- which is the newest version
      pub pooled-newest : (b : Bor Page) → o ≡ Some b → b.now ≡ newest c
      pooled-newest = lent-is o (newest c) (looked ∙ in-pool)

      pub pooled-copy : (b : Bor Page) → o ≡ Some b → Some b.now ≡ buffers.image_at (pool_at c i) p
      pooled-copy b is = sym (ap option_copied is) ∙ looked ∙ ap (λ (b : Buffers). buffers.image_at b p) (sym same-pool)

    -- so is the box there that is taken out
    pub pooled-box : (o : Option (Box Page)) → option_map box_value o ≡ buffers.image_at pool p → IsSome o
    pooled-box o took = some-boxed o (newest c) (boxed o (newest c) (took ∙ in-pool))

  -- ---- a copy on its way

  module _ {G : Type 0} (c : Complex G) (m : State) (g : Good seen_now leaves pend (parts c) m)
      (moves : passes (entry_at (parts c).directory p) ≡ true) where
    pub on-its-way : moving_image_at (unboxed c.directory) p ≡ Some (newest (parts c))
    on-its-way =
        let h = g.half (λ j. false) in
        let leaves' : Outcomes = leaves_by (parts c) (λ j. false) leaves in
        let base = base_of seen_now leaves' (log_at (parts c)) (parts c) in
        (moving-newest (may_of leaves') base (dir_of (parts c)) h.coherent p).0 moves

    in-boxes : option_map box_value (moving_image_at c.directory p) ≡ Some (newest (parts c))
    in-boxes = sym (get_or-map (option_map box_value) c.directory.images p None) ∙ on-its-way

    arrives : Boxed (moving_image_at c.directory p) (newest (parts c))
    arrives = boxed (moving_image_at c.directory p) (newest (parts c)) in-boxes

    -- what passes is there,
    pub moving-there : (o : Option (Bor (Box Page))) → option_copied o ≡ moving_image_at c.directory p → IsSome o
    moving-there o lent = some-lent o arrives.box (lent ∙ arrives.there)

    -- and is the newest version
    pub moving-is : (o : Option (Bor (Box Page))) → option_copied o ≡ moving_image_at c.directory p → (b : Bor (Box Page)) → o ≡ Some b
        → b.now.value ≡ newest (parts c)
    moving-is o lent b is = ap box_value (lent-is o arrives.box (lent ∙ arrives.there) b is) ∙ arrives.value

    -- so it is where what passes arrives
    module _ (o : Option (Box Page)) (came : o ≡ moving_image_at c.directory p) where
      pub arrived-there : IsSome o
      arrived-there = some-boxed o (newest (parts c)) (boxed o (newest (parts c)) (ap (option_map box_value) came ∙ in-boxes))

      pub arrived-is : (b : Box Page) → o ≡ Some b → b.value ≡ newest (parts c)
      arrived-is b is =
          let here : Some b.value ≡ Some (newest (parts c)) =
          sym (ap (option_map box_value) is) ∙ ap (option_map box_value) came ∙ in-boxes in cc
