-- What the directory keeps when a page's place and RecLSN are written. It serves directory.rt, and calls that make two moves of one event.
use Rattle.std.proofs.Common.{◌≡◌, ◌≢◌, ⊎_elim, ℕ, ◌<◌, Bool, true, false, List, Option, None, length, replicate, refl, sym, ap, ◌∙◌, arith}
use Rattle.std.specs.Prelude.{is_some, slice_set}
use Rattle.std.proofs.lemmas.Bool.{cases_eq}
use Rattle.std.proofs.lemmas.List.{get_or-set_other, length-set, length-replicate}
use Rattle.std.proofs.lemmas.Grind.{get_or-set_at}
use Rattle.sd_base.specs.declared.place.Place as coded
use Rattle.sd_pagelock.specs.Places.{PageEntry, changed, place_at}
use Rattle.sd_pagelock.specs.Rows.{fallen}
use Rattle.sd_pagelock.proofs.Drops.{changed-fallen}
use Rattle.sd_pagelock.proofs.TableKept.{blank}
use Rattle.sd_pagelock.specs.Directory.{IsKept, kept_rec}

pub kept-write : (old new : List coded.Place) (recs : List (Option ℕ)) (images i : ℕ) (to : PageEntry) (rec : Option ℕ)
    → IsKept old recs images → i < 1024 → is_some rec ≡ changed to → place_at new i ≡ to → ((q : ℕ) → q ≢ i → place_at new q ≡ place_at old q)
    → IsKept new (slice_set recs i rec) images
kept-write old new recs images i to rec k lt marked here others = record {
  marks = length-set recs i rec ∙ k.marks;
  frames = k.frames;
  marked = λ q. ⊎_elim
      (λ e. ap is_some (get_or-set_at recs i q rec None e (omega (arith, lt, k.marks))) ∙ marked ∙ sym (ap (λ (z : ℕ). changed (place_at new z)) e ∙ ap changed here))
      (λ ne. ap is_some (get_or-set_other recs i q rec None ne) ∙ k.marked q ∙ sym (ap changed (others q ne)))
      (cases_eq q i);
}

-- as many images
pub kept-images : (places : List coded.Place) (recs : List (Option ℕ)) (images n : ℕ) → n ≡ images → IsKept places recs images → IsKept places recs n
kept-images places recs images n same k = record { marks = k.marks; frames = same ∙ k.frames; marked = k.marked }

-- a fall leaves each page changed, or unchanged
pub kept-fallen : (i : ℕ) (old new : List coded.Place) (recs : List (Option ℕ)) (images : ℕ) → IsKept old recs images
    → ((p : ℕ) → place_at new p ≡ fallen i (place_at old p)) → IsKept new recs images
kept-fallen i old new recs images k left = record {
  marks = k.marks;
  frames = k.frames;
  marked = λ p. k.marked p ∙ sym (ap changed (left p) ∙ changed-fallen i (place_at old p));
}

pub kept-new : (images : ℕ) (places : List coded.Place) (recs : List (Option ℕ)) → ((p : ℕ) → place_at places p ≡ PageEntry.Free)
    → recs ≡ replicate 1024 None → images ≡ 1024 → IsKept places recs images
kept-new images places recs free clean frames = record {
  marks = ap length clean ∙ length-replicate {A = Option ℕ} 1024 None;
  frames = frames;
  marked = λ p. ap is_some (blank recs None clean p) ∙ sym (ap changed (free p));
}

-- a page that stays changed, or unchanged, keeps its RecLSN in two moves of one event as in one
pub kept_rec-twice : (a b c : Bool) → b ≡ a → c ≡ b → (rec : Option ℕ)
    → kept_rec b c (kept_rec a b rec None) None ≡ kept_rec a c rec None
kept_rec-twice true true true e f rec = refl
kept_rec-twice true true false e f rec = refl
kept_rec-twice true false true e f rec = absurd (cc)
kept_rec-twice true false false e f rec = refl
kept_rec-twice false true true e f rec = absurd (cc)
kept_rec-twice false true false e f rec = refl
kept_rec-twice false false true e f rec = refl
kept_rec-twice false false false e f rec = refl
