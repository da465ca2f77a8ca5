-- Lists of boxed images, seen as what the boxes hold: for the goals of the calls of `Pool`.
use Rattle.std.proofs.Common.{◌≡◌, ℕ, ◌-◌, Bool, true, false, cond, List, [], ◌∷◌, take, Option, Some, None, option_map, eqb, refl, sym, ap, ◌∙◌}
use Rattle.std.specs.Global.{Box}
use Rattle.std.specs.Map.{lookup_entry, remove_entry, set_value}
use Rattle.std.specs.Option.{option_map_or}
use Rattle.std.proofs.lemmas.List.{take-map}
use Rattle.lru.specs.LruCache.{LruCache, promoted, put_entries, lru_cache}
use Rattle.sd_page.specs.Page.{Page}
use Rattle.sd_pool.specs.Buffers.{unboxed}

-- a page with the image that its box holds
abbrev pub opened : ℕ × Box Page → ℕ × Page
opened e = (e.0, e.1.value)

module _ (test : ℕ → Bool) where
  lookup_entry-unboxed : (es : List (ℕ × Box Page)) → lookup_entry test (unboxed es) ≡ option_map opened (lookup_entry test es)
  lookup_entry-unboxed [] = refl
  lookup_entry-unboxed (e ∷ es) = elim (test e.0) as (λ b. cond b (Some (opened e)) (lookup_entry test (unboxed es)) ≡ option_map opened (cond b (Some e) (lookup_entry test es))) [
    | true ↦ refl
    | false ↦ lookup_entry-unboxed es
  ]

  pub unboxed-remove_entry : (es : List (ℕ × Box Page)) → unboxed (remove_entry test es) ≡ remove_entry test (unboxed es)
  unboxed-remove_entry [] = refl
  unboxed-remove_entry (e ∷ es) = elim (test e.0) as (λ b. unboxed (cond b es (e ∷ remove_entry test es)) ≡ cond b (unboxed es) (opened e ∷ remove_entry test (unboxed es))) [
    | true ↦ refl
    | false ↦ ap (λ l. opened e ∷ l) (unboxed-remove_entry es)
  ]

  pub unboxed-set_value : (es : List (ℕ × Box Page)) (w : Box Page) → unboxed (set_value test es w) ≡ set_value test (unboxed es) w.value
  unboxed-set_value [] w = refl
  unboxed-set_value (e ∷ es) w = elim (test e.0) as (λ b. unboxed (cond b ((e.0, w) ∷ es) (e ∷ set_value test es w)) ≡ cond b ((e.0, w.value) ∷ unboxed es) (opened e ∷ set_value test (unboxed es) w.value)) [
    | true ↦ refl
    | false ↦ ap (λ l. opened e ∷ l) (unboxed-set_value es w)
  ]

  pub unboxed-promoted : (es : List (ℕ × Box Page)) → unboxed (promoted test es) ≡ promoted test (unboxed es)
  unboxed-promoted es = by (lookup_entry test es) ∙ ap (λ o. option_map_or (λ (e : ℕ × Page). e ∷ remove_entry test (unboxed es)) o (unboxed es)) (sym (lookup_entry-unboxed es))
    where
      by : (o : Option (ℕ × Box Page)) → unboxed (option_map_or (λ e. e ∷ remove_entry test es) o es) ≡ option_map_or (λ (e : ℕ × Page). e ∷ remove_entry test (unboxed es)) (option_map opened o) (unboxed es)
      by None = refl
      by (Some e) = ap (λ l. opened e ∷ l) (unboxed-remove_entry es)

module _ (cache : LruCache ℕ (Box Page)) (p : ℕ) (image : Box Page) where
  pub unboxed-put_entries : unboxed (put_entries eqb cache p image) ≡ put_entries eqb (lru_cache (unboxed cache.entries) cache.cap) p image.value
  unboxed-put_entries = by (lookup_entry (eqb p) cache.entries)
      ∙ ap (λ o. option_map_or (λ (e : ℕ × Page). (e.0, image.value) ∷ remove_entry (eqb p) (unboxed cache.entries)) o ((p, image.value) ∷ take (cache.cap - 1) (unboxed cache.entries))) (sym (lookup_entry-unboxed (eqb p) cache.entries))
    where
      by : (o : Option (ℕ × Box Page)) → unboxed (option_map_or (λ e. (e.0, image) ∷ remove_entry (eqb p) cache.entries) o ((p, image) ∷ take (cache.cap - 1) cache.entries))
          ≡ option_map_or (λ (e : ℕ × Page). (e.0, image.value) ∷ remove_entry (eqb p) (unboxed cache.entries)) (option_map opened o) ((p, image.value) ∷ take (cache.cap - 1) (unboxed cache.entries))
      by None = ap (λ l. (p, image.value) ∷ l) (sym (take-map opened (cache.cap - 1) cache.entries))
      by (Some e) = ap (λ l. (e.0, image.value) ∷ l) (unboxed-remove_entry (eqb p) cache.entries)
