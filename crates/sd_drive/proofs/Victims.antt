-- A pool without a free frame has a page to give up. It serves the goals of pull.rt.
use Rattle.std.proofs.Common.{◌≡◌, ℕ, zero, suc, ◌-◌, ◌≤◌, Bool, true, false, cond, List, [], get_or, refl, sym, ap, ◌∙◌, subst, arith}
use Rattle.std.specs.Prelude.{Option, None, Some, IfSome, IsNone, IsSome, is_some}
use Rattle.sd_page.specs.Page.{Page}
use Rattle.sd_pagelock.specs.Directory.{entry_at}
use Rattle.sd_pagelock.specs.Places.{PageEntry, holds}
use Rattle.sd_pool.specs.Buffers.{Buffers, IsPool, image_at}
use Rattle.sd_rig.specs.Devices.{DeviceImages}
use Rattle.sd_chain.specs.World.{newest_version}
use Rattle.sd_chain.specs.Logs.{Outcomes}
use Rattle.sd_world.specs.Pages.{held_count}
use Rattle.sd_world.specs.Serving.{Core}
use Rattle.sd_state.specs.Good.{base_of}
use Rattle.sd_state.specs.Images.{leaves_by, log_by}
use Rattle.sd_state.specs.Parts.{Parts, no_pool, pool_at}
use Rattle.sd_state.proofs.Items.{item-is}
use Rattle.sd_fits.specs.Fits.{Fits}
use Rattle.sd_drive.specs.Driven.{IsFull}
use Rattle.sd_drive.specs.Measure.{copies_of}

none-held : (entry : ℕ → PageEntry) (i n : ℕ) → ((q : ℕ) → holds (entry q) i ≡ false) → held_count entry i n ≡ 0
none-held entry i zero none = refl
none-held entry i (suc n) none =
    let rest : held_count entry i n ≡ 0 = none-held entry i n none in
    let here : cond {A = ℕ} (holds (entry n) i) 1 0 ≡ 0 = ap (λ (b : Bool). cond {A = ℕ} b 1 0) (none n) in
    omega (arith, rest, here)

pub not-none : {X : Type 0} (o : Option X) → (IsNone o → ⊥) → IsSome o
not-none None h = absurd (h refl)
not-none (Some x) h = refl

-- a number of frames that is reached isn't one that nobody has
over : (frames pages : ℕ) → 1 ≤ frames → frames ≤ pages → pages ≡ 0 → ⊥
over frames pages some full none = omega (arith, some, full, none)

some-if : (b : Bool) (x : Page) → is_some (cond {A = Option Page} b (Some x) None) ≡ b
some-if true x = refl
some-if false x = refl

module _ (seen : DeviceImages) (leaves : Outcomes) (c : Parts) (w : Core) (f : Fits seen leaves c w) (i : ℕ) where
  in-pool : (q : ℕ) → is_some (image_at (pool_at c i) q) ≡ holds (entry_at c.directory q) i
  in-pool q =
      let b = base_of seen (leaves_by c (λ j. false) leaves) (log_by c (λ j. false)) c in
      ap (λ (o : Option Page). is_some o) ((f.good.half (λ j. false)).coherent.copies i q) ∙ some-if (holds (entry_at c.directory q) i) (newest_version b q)

  pub pool-holds : (v : ℕ) → IsSome (image_at (pool_at c i) v) → holds (entry_at c.directory v) i ≡ true
  pool-holds v there = sym (in-pool v) ∙ there

  none-copied : (pool_at c i).held ≡ [] → copies_of w.pages.entry i ≡ 0
  unfolding copies_of
  none-copied empty = none-held w.pages.entry i 1024 (λ q.
      ap (λ (e : PageEntry). holds e i) (f.pages.entry q) ∙ sym (in-pool q)
      ∙ ap (λ (es : List (ℕ × Page)). is_some (image_at (record { held = es; frames = (pool_at c i).frames }) q)) empty)

  pub some-held : 1 ≤ i → i ≤ 8 → IsPool (pool_at c i) → IsFull i w → (pool_at c i).held ≡ [] → ⊥
  some-held low high pool full empty = over w.pages.frames (copies_of w.pages.entry i)
      (subst (λ (n : ℕ). 1 ≤ n) (f.pages.frames i low high) pool.least) full.1 (none-copied empty)

  -- the pool that is lent at the instance's place
  module _ (low : 1 ≤ i) (high : i ≤ 8) (pool : Buffers) (lent : pool ≡ get_or c.pools (i - 1) pool) where
    same-pool : pool_at c i ≡ pool
    same-pool = item-is no_pool c.pools i pool low high f.good.shape.pools lent

    pub lent-some : IsPool pool → IsFull i w → (o : Option ℕ) → (IsNone o → pool.held ≡ []) → IsSome o
    lent-some is full o empty = not-none o (λ none.
        some-held low high (subst IsPool (sym same-pool) is) full (ap (λ (b : Buffers). b.held) same-pool ∙ empty none))

    pub lent-holds : (o : Option ℕ) → IfSome o (λ p. IsSome (image_at pool p)) → (v : ℕ) → o ≡ Some v → holds (entry_at c.directory v) i ≡ true
    lent-holds o held v is = pool-holds v (subst (λ (b : Buffers). IsSome (image_at b v)) (sym same-pool)
        (subst (λ (x : Option ℕ). IfSome x (λ p. IsSome (image_at pool p))) is held))
