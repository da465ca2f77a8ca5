-- A pool has as many pages as the world says that its instance holds. For what asks for a frame.
use Rattle.std.proofs.Common.{◌≡◌, ◌≢◌, ℕ, zero, suc, ◌+◌, ◌<◌, ◌≤◌, Bool, true, false, cond, eqb, List, [], ◌∷◌, length, refl, sym, ap, ap₂, ◌∙◌, arith, ⊎_elim, eq-eqb, ne_eqb, zero-add}
use Rattle.std.specs.Prelude.{Option, None, Some, is_some}
use Rattle.std.specs.List.{IsDistinct, AllByRecursion}
use Rattle.std.specs.Map.{keys_of, lookup}
use Rattle.std.proofs.lemmas.Bool.{cases_eq, cases_lt}
use Rattle.sd_pagelock.specs.Directory.{entry_at}
use Rattle.sd_pagelock.specs.Places.{PageEntry, holds}
use Rattle.sd_pool.specs.Buffers as buffers
use Rattle.sd_pool.specs.Buffers.{Buffers, IsPool}
use Rattle.sd_rig.specs.Devices as rig
use Rattle.sd_page.specs.Page.{Page}
use Rattle.sd_chain.specs.World.{newest_version}
use Rattle.sd_model.specs.State.{State}
use Rattle.sd_chain.specs.Logs.{Outcomes}
use Rattle.sd_world.specs.Pages.{Pages, held_count}
use Rattle.sd_state.specs.Good.{Good, base_of}
use Rattle.sd_state.specs.Images.{leaves_by, log_by}
use Rattle.sd_state.specs.Parts.{Parts, pool_at}
use Rattle.sd_state.specs.Values.{Pending}
use Rattle.sd_fits.specs.Fits.{FitsPages}

-- ---- how many of the first numbers pass a test

abbrev pub below : (ℕ → Bool) → ℕ → ℕ
below f zero = 0
below f (suc n) = cond (f n) 1 0 + below f n

below-same : (f h : ℕ → Bool) → ((q : ℕ) → f q ≡ h q) → (n : ℕ) → below f n ≡ below h n
below-same f h same zero = refl
below-same f h same (suc n) = ap₂ (λ (b : Bool) (k : ℕ). cond {A = ℕ} b 1 0 + k) (same n) (below-same f h same n)

below-none : (n : ℕ) → below (λ q. false) n ≡ 0
below-none zero = refl
below-none (suc n) = zero-add (below (λ q. false) n) ∙ below-none n

-- one more passes, above them
below-outside : (f : ℕ → Bool) (k n : ℕ) → n ≤ k → below (λ q. cond (eqb q k) true (f q)) n ≡ below f n
below-outside f k zero le = refl
below-outside f k (suc n) le =
    let ne : n ≢ k = omega arith in
    let inner : n ≤ k = omega arith in
    ap₂ (λ (b : Bool) (m : ℕ). cond {A = ℕ} b 1 0 + m) (ap (λ (b : Bool). cond b true (f n)) (ne_eqb n k ne)) (below-outside f k n inner)

-- or among them
below-inside : (f : ℕ → Bool) (k n : ℕ) → k < n → f k ≡ false → below (λ q. cond (eqb q k) true (f q)) n ≡ suc (below f n)
below-inside f k zero lt new = absurd (omega (arith, lt))
below-inside f k (suc n) lt new = ⊎_elim
    (λ e.
    let here : cond (eqb n k) true (f n) ≡ true = ap (λ (b : Bool). cond b true (f n)) (eq-eqb n k e) in
    let was : f n ≡ false = ap f e ∙ new in
    let at : n ≤ k = omega (arith, e) in
    let rest : below (λ q. cond (eqb q k) true (f q)) n ≡ below f n = below-outside f k n at in
    ap₂ (λ (b : Bool) (m : ℕ). cond {A = ℕ} b 1 0 + m) here rest ∙ one (below f n)
    ∙ sym (ap (λ (b : Bool). suc (cond {A = ℕ} b 1 0 + below f n)) was))
    (λ ne.
    let inner : k < n = omega arith in
    ap₂ (λ (b : Bool) (m : ℕ). cond {A = ℕ} b 1 0 + m) (ap (λ (b : Bool). cond b true (f n)) (ne_eqb n k ne)) (below-inside f k n inner new)
    ∙ past (cond (f n) 1 0) (below f n))
    (cases_eq n k)
  where
    one : (x : ℕ) → 1 + x ≡ suc (0 + x)
    one x = omega arith

    past : (x y : ℕ) → x + suc y ≡ suc (x + y)
    past x y = omega arith

held-below : (entry : ℕ → PageEntry) (i n : ℕ) → held_count entry i n ≡ below (λ q. holds (entry q) i) n
held-below entry i zero = refl
held-below entry i (suc n) = ap (λ (k : ℕ). cond {A = ℕ} (holds (entry n) i) 1 0 + k) (held-below entry i n)

-- ---- a list of pages with their images

module _ {X : Type 0} where
  absent : (k : ℕ) (es : List (ℕ × X)) → AllByRecursion (λ y. eqb k y ≡ false) (keys_of es) → lookup (eqb k) es ≡ None
  absent k [] all = refl
  absent k (e ∷ es) all = ap (λ b. cond b (Some e.1) (lookup (eqb k) es)) all.0 ∙ absent k es all.1

  some-other : (q : ℕ) (e : ℕ × X) (es : List (ℕ × X))
      → is_some (lookup (eqb q) (e ∷ es)) ≡ cond (eqb q e.0) true (is_some (lookup (eqb q) es))
  some-other q e es = go (eqb q e.0)
    where
      go : (b : Bool) → is_some (cond b (Some e.1) (lookup (eqb q) es)) ≡ cond b true (is_some (lookup (eqb q) es))
      go true = refl
      go false = refl

  -- of distinct numbers below n, as many are found below n as there are
  found-below : (es : List (ℕ × X)) (n : ℕ) → IsDistinct eqb (keys_of es) → ((q : ℕ) → n ≤ q → lookup (eqb q) es ≡ None)
      → below (λ q. is_some (lookup (eqb q) es)) n ≡ length es
  unfolding IsDistinct
  found-below [] n distinct past = below-none n
  found-below (e ∷ es) n distinct past =
      below-same (λ q. is_some (lookup (eqb q) (e ∷ es))) (λ q. cond (eqb q e.0) true (is_some (lookup (eqb q) es)))
      (λ q. some-other q e es) n
      ∙ below-inside (λ q. is_some (lookup (eqb q) es)) e.0 n inside (ap is_some (absent e.0 es distinct.0))
      ∙ ap suc (found-below es n distinct.1 rest)
    where
      here : lookup (eqb e.0) (e ∷ es) ≡ Some e.1
      here = ap (λ b. cond b (Some e.1) (lookup (eqb e.0) es)) (eq-eqb e.0 e.0 refl)

      inside : e.0 < n
      inside = ⊎_elim (λ lt. lt) (λ le. let clash = sym here ∙ past e.0 le in absurd (cc)) (cases_lt e.0 n)

      rest : (q : ℕ) → n ≤ q → lookup (eqb q) es ≡ None
      rest q le =
          let ne : q ≢ e.0 = omega (arith, inside) in
          sym (ap (λ b. cond b (Some e.1) (lookup (eqb q) es)) (ne_eqb q e.0 ne)) ∙ past q le

-- ---- the pool of an instance, where no page from n on is in a pool

module _ (seen : rig.DeviceImages) (leaves : Outcomes) (pend : Pending) (c : Parts) (m : State) (g : Good seen leaves pend c m)
    (w : Pages) (f : FitsPages seen leaves c w) (i n : ℕ) (low : 1 ≤ i) (high : i ≤ 8) (pool : IsPool (pool_at c i))
    (past : (q : ℕ) → n ≤ q → entry_at c.directory q ≡ PageEntry.Free) where
  some-if : (b : Bool) (x : Page) → is_some (cond {A = Option Page} b (Some x) None) ≡ b
  some-if true x = refl
  some-if false x = refl

  -- the pool has a page exactly where the directory says so
  has-copy : (q : ℕ) → is_some (buffers.image_at (pool_at c i) q) ≡ holds (entry_at c.directory q) i
  has-copy q =
      let b = base_of seen (leaves_by c (λ j. false) leaves) (log_by c (λ j. false)) c in
      ap is_some ((g.half (λ j. false)).coherent.copies i q) ∙ some-if (holds (entry_at c.directory q) i) (newest_version b q)

  none-past : (q : ℕ) → n ≤ q → buffers.image_at (pool_at c i) q ≡ None
  none-past q le =
      let b = base_of seen (leaves_by c (λ j. false) leaves) (log_by c (λ j. false)) c in
      (g.half (λ j. false)).coherent.copies i q
      ∙ ap (λ (e : PageEntry). cond {A = Option Page} (holds e i) (Some (newest_version b q)) None) (past q le)

  held-there : held_count w.entry i n ≡ length (pool_at c i).held
  held-there = held-below w.entry i n
      ∙ below-same (λ q. holds (w.entry q) i) (λ q. is_some (buffers.image_at (pool_at c i) q))
      (λ q. ap (λ (e : PageEntry). holds e i) (f.entry q) ∙ sym (has-copy q)) n
      ∙ found-below (pool_at c i).held n pool.distinct none-past

  -- each frame has a page exactly where the world says that the instance holds so many
  pub frames-held : length (pool_at c i).held ≡ (pool_at c i).frames → w.frames ≤ held_count w.entry i n
  frames-held full =
      let there = held-there in
      let frames = f.frames i low high in omega (arith, there, frames, full)

  pub frames-left : (length (pool_at c i).held ≡ (pool_at c i).frames → ⊥) → w.frames ≤ held_count w.entry i n → ⊥
  frames-left room all =
      let there = held-there in
      let frames = f.frames i low high in
      let few = pool.few in
      room (omega (arith, there, frames, few, all))
