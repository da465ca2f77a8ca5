-- What each call makes of a pool: for the goals of the calls of `Pool`, and for the law.
use Rattle.std.proofs.Common.{◌≡◌, ◌≢◌, ℕ, suc, ◌-◌, ◌≤◌, Bool, true, false, cond, List, [], ◌∷◌, length, take, Option, Some, None, Result, Ok, Err, OnOk, OnErr, IfSome, IsSome, is_some, slice_get, option_map, eqb, refl, sym, ap, subst, ◌∙◌, arith}
use Rattle.std.specs.Cmp.{nat_eq_equiv}
use Rattle.std.specs.Box.{box_value}
use Rattle.std.specs.Global.{Box}
use Rattle.std.specs.List.{IsDistinct}
use Rattle.std.specs.Map.{keys_of, lookup, remove_entry, set_value}
use Rattle.std.specs.Option.{option_map_or}
use Rattle.std.proofs.lemmas.Bool.{eqb-true}
use Rattle.std.proofs.lemmas.List.{length-map, take_all}
use Rattle.std.proofs.lemmas.Map.Keys.{IsDistinct-cons}
use Rattle.std.proofs.lemmas.Map.Made.{keys_of-map_values, lookup-map_values}
use Rattle.std.proofs.lemmas.Option.{slice_get-get_or}
use Rattle.lru.specs.LruCache.{LruCache, last_entry, promoted, put_entries, lru_cache}
use Rattle.sd_page.specs.Page.{Page}
use Rattle.sd_pool.specs.Buffers.{Buffers, image_at, least_recent, pages, rewritten, unboxed, used, with_page, without_page, IsPool, LacksFrame}
use Rattle.sd_pool.proofs.Boxed.{opened, unboxed-promoted, unboxed-put_entries, unboxed-remove_entry, unboxed-set_value}
use Rattle.sd_pool.proofs.Held.{lookup_entry-lookup, remove_entry-absent, set_value-absent, lookup-remove_entry_other, IsDistinct-remove_entry, differs-remove_entry, lookup-remove_entry_same, length-remove_entry_le, length-remove_entry_held, IsSome-lookup_at, length-keys, slice_get-keys}

pub IsPool-cleared : (pool : Buffers) → IsPool pool → IsPool (record { held = []; frames = pool.frames })
unfolding IsDistinct
IsPool-cleared pool ok = record { distinct = tt; few = omega arith; least = ok.least; most = ok.most }

module _ (pool : Buffers) (p : ℕ) where
  pub IsPool-without : IsPool pool → IsPool (without_page pool p)
  IsPool-without ok = record {
    distinct = IsDistinct-remove_entry p pool.held ok.distinct;
    few = let shorter = length-remove_entry_le p pool.held in omega (arith, ok.few);
    least = ok.least;
    most = ok.most;
  }

  -- with the page taken out, there is a frame for it
  frame_for : IsPool pool → (LacksFrame pool p → ⊥) → suc (length (remove_entry (eqb p) pool.held)) ≤ pool.frames
  frame_for ok room = by (image_at pool p) refl
    where
      by : (o : Option Page) → image_at pool p ≡ o → suc (length (remove_entry (eqb p) pool.held)) ≤ pool.frames
      by None h = let free : length pool.held ≡ pool.frames → ⊥ = λ e. room (h, e) in
          let shorter = length-remove_entry_le p pool.held in omega (arith, ok.few)
      by (Some image) h = let fewer = length-remove_entry_held p pool.held (ap is_some h) in omega (arith, ok.few)

  module _ (image : Page) where
    pub IsPool-with_page : IsPool pool → (LacksFrame pool p → ⊥) → IsPool (with_page pool p image)
    IsPool-with_page ok room = record {
      distinct = IsDistinct-cons eqb p (keys_of (remove_entry (eqb p) pool.held)) (differs-remove_entry p pool.held ok.distinct) (IsDistinct-remove_entry p pool.held ok.distinct);
      few = frame_for ok room;
      least = ok.least;
      most = ok.most;
    }

    pub image_at-with_page : image_at (with_page pool p image) p ≡ Some image
    image_at-with_page = ap (λ b. cond b (Some image) (lookup (eqb p) (remove_entry (eqb p) pool.held))) (nat_eq_equiv.refl p)

    pub image_at-with_page_other : (q : ℕ) → q ≢ p → image_at (with_page pool p image) q ≡ image_at pool q
    image_at-with_page_other q apart = (elim (eqb q p) as (λ b. eqb q p ≡ b → cond b (Some image) (lookup (eqb q) (remove_entry (eqb p) pool.held)) ≡ lookup (eqb q) pool.held) [
      | true ↦ λ t. absurd (apart (eqb-true q p t))
      | false ↦ λ t. lookup-remove_entry_other p q apart pool.held
    ]) refl

    put_entries-with_page : IsPool pool → (LacksFrame pool p → ⊥) → put_entries eqb (lru_cache pool.held pool.frames) p image ≡ (with_page pool p image).held
    put_entries-with_page ok room = ap (λ o. option_map_or (λ (e : ℕ × Page). (e.0, image) ∷ remove_entry (eqb p) pool.held) o ((p, image) ∷ take (pool.frames - 1) pool.held)) (lookup_entry-lookup p pool.held) ∙ by (image_at pool p) refl
      where
        by : (o : Option Page) → image_at pool p ≡ o
            → option_map_or (λ (e : ℕ × Page). (e.0, image) ∷ remove_entry (eqb p) pool.held) (option_map (λ v. (p, v)) o) ((p, image) ∷ take (pool.frames - 1) pool.held) ≡ (p, image) ∷ remove_entry (eqb p) pool.held
        by None h = let free : length pool.held ≡ pool.frames → ⊥ = λ e. room (h, e) in
            let within : length pool.held ≤ pool.frames - 1 = omega (arith, ok.few) in
            ap (λ l. (p, image) ∷ l) (take_all (pool.frames - 1) pool.held within ∙ sym (remove_entry-absent p pool.held h))
        by (Some v) h = refl

  pub image_at-without : IsPool pool → image_at (without_page pool p) p ≡ None
  image_at-without ok = lookup-remove_entry_same p pool.held ok.distinct

  pub image_at-without_other : (q : ℕ) → q ≢ p → image_at (without_page pool p) q ≡ image_at pool q
  image_at-without_other q apart = lookup-remove_entry_other p q apart pool.held

  promoted_held : promoted (eqb p) pool.held ≡ (used pool p).held
  promoted_held = ap (λ o. option_map_or (λ (e : ℕ × Page). e ∷ remove_entry (eqb p) pool.held) o pool.held) (lookup_entry-lookup p pool.held) ∙ by (image_at pool p)
    where
      by : (o : Option Page) → option_map_or (λ (e : ℕ × Page). e ∷ remove_entry (eqb p) pool.held) (option_map (λ v. (p, v)) o) pool.held ≡ (option_map_or (with_page pool p) o pool).held
      by None = refl
      by (Some v) = refl

  frames-used : (used pool p).frames ≡ pool.frames
  frames-used = by (image_at pool p)
    where
      by : (o : Option Page) → (option_map_or (with_page pool p) o pool).frames ≡ pool.frames
      by None = refl
      by (Some v) = refl

  pub IsPool-used : IsPool pool → IsPool (used pool p)
  IsPool-used ok = by (image_at pool p) refl
    where
      by : (o : Option Page) → image_at pool p ≡ o → IsPool (option_map_or (with_page pool p) o pool)
      by None h = ok
      by (Some v) h = IsPool-with_page v ok (λ lacks. let not : Some v ≡ None = sym h ∙ lacks.0 in cc)

  pub image_at-used : (q : ℕ) → image_at (used pool p) q ≡ image_at pool q
  image_at-used q = by (image_at pool p) refl
    where
      here : (v : Page) → image_at pool p ≡ Some v → (b : Bool) → eqb q p ≡ b → image_at (with_page pool p v) q ≡ image_at pool q
      here v h true t = subst (λ k. image_at (with_page pool p v) k ≡ image_at pool k) (sym (eqb-true q p t)) (image_at-with_page v ∙ sym h)
      here v h false t = image_at-with_page_other v q (λ e. let not : true ≡ false = sym (subst (λ k. eqb k p ≡ true) (sym e) (nat_eq_equiv.refl p)) ∙ t in cc)

      by : (o : Option Page) → image_at pool p ≡ o → image_at (option_map_or (with_page pool p) o pool) q ≡ image_at pool q
      by None h = refl
      by (Some v) h = here v h (eqb q p) refl

-- what contracts see of a pool over this cache
abbrev pub seen : LruCache ℕ (Box Page) → Buffers
seen cache = record { held = unboxed cache.entries; frames = cache.cap }

-- the image of a page is what the box that the cache finds holds
pub image_at-seen : (cache : LruCache ℕ (Box Page)) (p : ℕ) → option_map box_value (lookup (eqb p) cache.entries) ≡ image_at (seen cache) p
image_at-seen cache p = sym (lookup-map_values box_value (eqb p) cache.entries)

pub is_held-seen : (cache : LruCache ℕ (Box Page)) (p : ℕ) → is_some (lookup (eqb p) cache.entries) ≡ is_some (image_at (seen cache) p)
is_held-seen cache p = by (lookup (eqb p) cache.entries) ∙ ap is_some (image_at-seen cache p)
  where
    by : (o : Option (Box Page)) → is_some o ≡ is_some (option_map box_value o)
    by None = refl
    by (Some b) = refl

module _ (cache new : LruCache ℕ (Box Page)) (p : ℕ) where
  -- the cache after `promote`
  pub seen-promoted : new ≡ lru_cache (promoted (eqb p) cache.entries) cache.cap → seen new ≡ used (seen cache) p
  seen-promoted e = ap seen e ∙ (λ i. record { held = (unboxed-promoted (eqb p) cache.entries ∙ promoted_held (seen cache) p) i; frames = sym (frames-used (seen cache) p) i })

  -- after `pop`
  pub seen-popped : new ≡ lru_cache (remove_entry (eqb p) cache.entries) cache.cap → seen new ≡ without_page (seen cache) p
  seen-popped e = ap seen e ∙ (λ i. record { held = unboxed-remove_entry (eqb p) cache.entries i; frames = cache.cap })

  -- after `put`, where there is a frame
  pub seen-put : (image : Box Page) → IsPool (seen cache) → (LacksFrame (seen cache) p → ⊥) → new ≡ lru_cache (put_entries eqb cache p image) cache.cap → seen new ≡ with_page (seen cache) p image.value
  seen-put image ok room e = ap seen e ∙ (λ i. record { held = (unboxed-put_entries cache p image ∙ put_entries-with_page (seen cache) p image.value ok room) i; frames = cache.cap })

module _ (pool : Buffers) where
  -- no page is a victim exactly where none is held
  pub least_recent-empty : (r : Option ℕ) → r ≡ least_recent pool → (is_some r ≡ false → pool.held ≡ []) × (pool.held ≡ [] → is_some r ≡ false)
  least_recent-empty r e = by pool.held refl
    where
      by : (es : List (ℕ × Page)) → pool.held ≡ es → (is_some r ≡ false → pool.held ≡ []) × (pool.held ≡ [] → is_some r ≡ false)
      by [] h = (λ _. h, λ _. ap is_some e ∙ ap (λ l. is_some (slice_get (keys_of l) (length l - 1))) h)
      by (f ∷ es) h = (λ n. let last = slice_get-get_or (keys_of (f ∷ es)) (length (f ∷ es) - 1) 0 (omega (arith, length-keys (f ∷ es))) in let bad : false ≡ true = sym n ∙ ap is_some e ∙ ap (λ l. is_some (slice_get (keys_of l) (length l - 1))) h ∙ ap is_some last in cc, λ n. let bad : f ∷ es ≡ [] = sym h ∙ n in cc)

  -- a victim is held
  pub least_recent-held : (r : Option ℕ) → r ≡ least_recent pool → IfSome r (λ p. is_some (image_at pool p) ≡ true)
  least_recent-held None e = tt
  least_recent-held (Some p) e = IsSome-lookup_at p pool.held (length pool.held - 1) (sym e)

-- ---- a pool with an image written back

module _ (pool : Buffers) (p : ℕ) (image : Page) where
  abbrev put_back : Option Page → Buffers
  put_back o = option_map_or (λ _. with_page pool p image) o pool

  pub image_at-rewritten : IsSome (image_at pool p) → image_at (rewritten pool p image) p ≡ Some image
  image_at-rewritten held = by (image_at pool p) held
    where
      by : (o : Option Page) → IsSome o → image_at (put_back o) p ≡ Some image
      by None h = cc
      by (Some v) h = image_at-with_page pool p image

  pub image_at-rewritten_other : (q : ℕ) → q ≢ p → image_at (rewritten pool p image) q ≡ image_at pool q
  image_at-rewritten_other q apart = by (image_at pool p)
    where
      by : (o : Option Page) → image_at (put_back o) q ≡ image_at pool q
      by None = refl
      by (Some v) = image_at-with_page_other pool p image q apart

  pub rewritten-absent : image_at pool p ≡ None → rewritten pool p image ≡ pool
  rewritten-absent none = ap put_back none

  pub pages-rewritten : pages (rewritten pool p image) ≡ pages (used pool p)
  pages-rewritten = by (image_at pool p)
    where
      by : (o : Option Page) → pages (put_back o) ≡ pages (option_map_or (with_page pool p) o pool)
      by None = refl
      by (Some v) = refl

  pub frames-rewritten : (rewritten pool p image).frames ≡ pool.frames
  frames-rewritten = by (image_at pool p)
    where
      by : (o : Option Page) → (put_back o).frames ≡ pool.frames
      by None = refl
      by (Some v) = refl

-- whatever `put` answers, a pool is left
pub IsPool-put : {A B : Type 0} (cache new : LruCache ℕ (Box Page)) (p : ℕ) (image : Box Page) → IsPool (seen cache) → (LacksFrame (seen cache) p → ⊥)
    → (r : Result A B) → OnOk r (new ≡ lru_cache (put_entries eqb cache p image) cache.cap) → OnErr r (new ≡ cache) → IsPool (seen new)
IsPool-put cache new p image ok room (Ok old) done stays = subst IsPool (sym (seen-put cache new p image ok room done)) (IsPool-with_page (seen cache) p image.value ok room)
IsPool-put cache new p image ok room (Err e) done stays = subst IsPool (sym (ap seen stays)) ok

-- the number of the cache's last entry
pub number_of_last : (cache : LruCache ℕ (Box Page)) (o : Option (ℕ × Box Page)) → o ≡ last_entry cache.entries → option_map (λ e. e.0) o ≡ least_recent (seen cache)
number_of_last cache o e = ap (option_map (λ (e : ℕ × Box Page). e.0)) e ∙ slice_get-keys cache.entries (length cache.entries - 1)
    ∙ (λ i. slice_get (sym (keys_of-map_values box_value cache.entries) i) (sym (length-map cache.entries opened) i - 1))

-- the image is set at the front, where the page is held
set-promoted : (pool : Buffers) (p : ℕ) (image : Page) → set_value (eqb p) (promoted (eqb p) pool.held) image ≡ (rewritten pool p image).held
set-promoted pool p image = by (image_at pool p) refl
  where
    ordered : (o : Option Page) → image_at pool p ≡ o → promoted (eqb p) pool.held ≡ (option_map_or (with_page pool p) o pool).held
    ordered o h = promoted_held pool p ∙ ap (λ o. (option_map_or (with_page pool p) o pool).held) h

    put_in : List (ℕ × Page) → List (ℕ × Page)
    put_in es = set_value (eqb p) es image

    front : (v : Page) → put_in ((p, v) ∷ remove_entry (eqb p) pool.held) ≡ (p, image) ∷ remove_entry (eqb p) pool.held
    front v = ap (λ b. cond b ((p, image) ∷ remove_entry (eqb p) pool.held) ((p, v) ∷ put_in (remove_entry (eqb p) pool.held))) (nat_eq_equiv.refl p)

    by : (o : Option Page) → image_at pool p ≡ o → put_in (promoted (eqb p) pool.held) ≡ (option_map_or (λ _. with_page pool p image) o pool).held
    by None h = ap put_in (ordered None h) ∙ set_value-absent p pool.held image h
    by (Some v) h = ap put_in (ordered (Some v) h) ∙ front v

module _ (cache : LruCache ℕ (Box Page)) (p : ℕ) (image : Box Page) where
  -- the cache once this image was written through a loan of the page's box
  abbrev pub rewritten_cache : LruCache ℕ (Box Page)
  rewritten_cache = lru_cache (set_value (eqb p) (promoted (eqb p) cache.entries) image) cache.cap

  pub written-rewritten : seen rewritten_cache ≡ rewritten (seen cache) p image.value
  written-rewritten = λ i. record {
    held = (unboxed-set_value (eqb p) (promoted (eqb p) cache.entries) image ∙ ap (λ es. set_value (eqb p) es image.value) (unboxed-promoted (eqb p) cache.entries) ∙ set-promoted (seen cache) p image.value) i;
    frames = sym (frames-rewritten (seen cache) p image.value) i;
  }

  pub IsPool-written : IsPool (seen cache) → IsPool (seen rewritten_cache)
  IsPool-written ok = subst IsPool (sym written-rewritten) (by (image_at (seen cache) p) refl)
    where
      by : (o : Option Page) → image_at (seen cache) p ≡ o → IsPool (option_map_or (λ _. with_page (seen cache) p image.value) o (seen cache))
      by None h = ok
      by (Some v) h = IsPool-with_page (seen cache) p image.value ok (λ lacks. let not : Some v ≡ None = sym h ∙ lacks.0 in cc)
