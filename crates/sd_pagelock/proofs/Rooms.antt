-- Room in which the images of pages that are asked for can set out, where a page's room, image or asks change. It serves directory.rt.
use Rattle.std.proofs.Common.{◌≡◌, ◌≢◌, ⊎_elim, ℕ, ◌<◌, true, false, List, [], Option, None, Some, length, get_or, refl, sym, ap, ◌∙◌, arith}
use Rattle.std.specs.Prelude.{is_some, slice_set}
use Rattle.std.proofs.lemmas.Bool.{cases_eq}
use Rattle.std.proofs.lemmas.List.{get_or-set_other, get_or_read, length-set}
use Rattle.std.proofs.lemmas.Grind.{get_or-set_at}
use Rattle.sd_pagelock.specs.Asks.{Queues, asks_for}
use Rattle.sd_pagelock.specs.Directory.{HaveRoom}

module _ {I : Type 0} (old new : Queues) (images sent rooms : List (Option I)) (p : ℕ) (was : HaveRoom old images rooms)
    (others : (q : ℕ) → q ≢ p → asks_for new q ≡ asks_for old q)
    (others_sent : (q : ℕ) → q ≢ p → get_or sent q None ≡ get_or images q None) where
  -- what changed at one page leaves room there
  pub room-at : (left : List (Option I)) → length left ≡ 1024 → ((q : ℕ) → q ≢ p → get_or left q None ≡ get_or rooms q None)
      → (get_or left p None ≡ None → get_or sent p None ≡ None → asks_for new p ≡ []) → HaveRoom new sent left
  room-at left count others_left here = record {
    count = count;
    unasked = λ q lt none still. ⊎_elim
        (λ e. ap (asks_for new) e ∙ here (ap (λ (z : ℕ). get_or left z None) (sym e) ∙ none) (ap (λ (z : ℕ). get_or sent z None) (sym e) ∙ still))
        (λ ne. others q ne ∙ was.unasked q lt (sym (others_left q ne) ∙ none) (sym (others_sent q ne) ∙ still))
        (cases_eq q p);
  }

  -- room is put there
  pub room-put : (room : I) → p < 1024 → HaveRoom new sent (slice_set rooms p (Some room))
  room-put room lt = room-at (slice_set rooms p (Some room)) (length-set rooms p (Some room) ∙ was.count)
      (λ q ne. get_or-set_other rooms p q (Some room) None ne)
      (λ none still. absurd (let clash : Some room ≡ None = sym (get_or-set_at rooms p p (Some room) None refl (omega (arith, lt, was.count))) ∙ none in cc))

  -- room is there already
  pub room-there : (get_or rooms p None ≡ None → ⊥) → HaveRoom new sent rooms
  room-there there = room-at rooms was.count (λ q ne. refl) (λ none still. absurd (there none))

-- what was read there isn't none
pub there : {I : Type 0} (rooms : List (Option I)) (p : ℕ) (room : Option I) → p < length rooms → room ≡ get_or rooms p room → is_some room ≡ true
    → get_or rooms p None ≡ None → ⊥
there rooms p room lt read some none = let clash : true ≡ false = sym some ∙ ap is_some (get_or_read rooms p room lt read None ∙ none) in absurd (cc)

-- an image sets out, from a room or not
pub room-sent : {I : Type 0} (queues : Queues) (images rooms left : List (Option I)) (p : ℕ) (image : I) → HaveRoom queues images rooms → p < length images
    → length left ≡ 1024 → ((q : ℕ) → q ≢ p → get_or left q None ≡ get_or rooms q None) → HaveRoom queues (slice_set images p (Some image)) left
room-sent queues images rooms left p image was lt count others_left =
    room-at queues queues images (slice_set images p (Some image)) rooms p was (λ q ne. refl) (λ q ne. get_or-set_other images p q (Some image) None ne) left count others_left
    (λ none still. absurd (let clash : Some image ≡ None = sym (get_or-set_at images p p (Some image) None refl lt) ∙ still in cc))

-- asks go
pub room-left : {I : Type 0} (old new : Queues) (images rooms : List (Option I)) → HaveRoom old images rooms
    → ((q : ℕ) → asks_for old q ≡ [] → asks_for new q ≡ []) → HaveRoom new images rooms
room-left old new images rooms was fewer = record { count = was.count; unasked = λ q lt none still. fewer q (was.unasked q lt none still) }
