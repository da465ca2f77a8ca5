-- Which row leads from a place to another. It serves lawful.rt.
use Rattle.std.proofs.Common.{◌≡◌, ℕ, Bool, true, false, cond, eqb, not, ◌&&◌, Some, is_some, refl, sym, ap, ◌∙◌}
use Rattle.sd_base.specs.declared.place.Mode.{Mode}
use Rattle.sd_base.specs.declared.place.Mode.TheVariants as modes
use Rattle.sd_base.specs.declared.place.Place as coded
use Rattle.sd_base.specs.declared.place.Place.TheVariants as variants
use Rattle.sd_base.specs.Sets.{has}
use Rattle.sd_pagelock.specs.Places.{PageEntry, seen, InBytes, uses}
use Rattle.sd_pagelock.specs.Rows.{locked, may_raise, raised, may_share, given_shared, may_drop, may_evict, is_only}
use Rattle.sd_pagelock.specs.Moves.{IsMove, Gains, Turns, Loses, newcomer}
use Rattle.sd_pagelock.proofs.Alone.{byte_of, byte_of-members}

pub inside : {x y : ℕ} → Some x ≡ Some y → x ≡ y
inside e = cc

lock_newcomer : (i : ℕ) (mode : Mode) → newcomer (locked i mode) ≡ Some i
lock_newcomer i modes.Shared = refl
lock_newcomer i modes.Excl = refl

raise_newcomer : (i : ℕ) (e : PageEntry) → may_raise i e ≡ true → newcomer (raised i e) ≡ Some i
raise_newcomer i PageEntry.Free m = absurd (cc)
raise_newcomer i PageEntry.Lost m = absurd (cc)
raise_newcomer i (PageEntry.Shared set writer) m = refl
raise_newcomer i (PageEntry.Excl holder dirty) m = absurd (cc)
raise_newcomer i (PageEntry.Moving to mode rest dirty) m = absurd (cc)

share_newcomer : (i : ℕ) (e : PageEntry) → may_share i e ≡ true → newcomer (given_shared i e) ≡ Some i
share_newcomer i PageEntry.Free m = absurd (cc)
share_newcomer i PageEntry.Lost m = absurd (cc)
share_newcomer i (PageEntry.Shared set writer) m = refl
share_newcomer i (PageEntry.Excl holder dirty) m = refl
share_newcomer i (PageEntry.Moving to mode rest dirty) m = absurd (cc)

-- the new place names the one who gains the page
pub newcomer-gains : (i : ℕ) (from to : PageEntry) → Gains i from to → newcomer to ≡ Some i
newcomer-gains i from to (Gains.lock mode m e) = ap newcomer e ∙ lock_newcomer i mode
newcomer-gains i from to (Gains.raise m e) = ap newcomer e ∙ raise_newcomer i from m
newcomer-gains i from to (Gains.share m e) = ap newcomer e ∙ share_newcomer i from m
newcomer-gains i from to (Gains.yield m e) = ap newcomer e
newcomer-gains i from to (Gains.change m e) = ap newcomer e

and_left : (a b : Bool) → (a && b) ≡ true → a ≡ true
and_left true b e = refl
and_left false b e = e

or_true : (b : Bool) → cond b true true ≡ true
or_true true = refl
or_true false = refl

pub evict_uses : (i : ℕ) (e : PageEntry) → may_evict i e ≡ true → uses e i ≡ true
evict_uses i PageEntry.Free m = absurd (cc)
evict_uses i PageEntry.Lost m = absurd (cc)
evict_uses i (PageEntry.Shared set writer) m = and_left (has i set) _ m
evict_uses i (PageEntry.Excl holder dirty) m = and_left (eqb holder i) (not dirty) m
evict_uses i (PageEntry.Moving to mode rest dirty) m = ap (λ (b : Bool). cond (eqb to i) true b) m ∙ or_true (eqb to i)

-- a copy that may be dropped isn't the only one
pub drop_evicts : (i : ℕ) (e : PageEntry) → may_drop i e ≡ true → may_evict i e ≡ true
drop_evicts i PageEntry.Free m = absurd (cc)
drop_evicts i PageEntry.Lost m = absurd (cc)
drop_evicts i (PageEntry.Shared set writer) m = go (has i set) (is_only i set) m
  where
    go : (a b : Bool) → (a && not b) ≡ true → (a && not (b && is_some writer)) ≡ true
    go true true m = absurd (cc)
    go true false m = refl
    go false b m = absurd (cc)
drop_evicts i (PageEntry.Excl holder dirty) m = absurd (cc)
drop_evicts i (PageEntry.Moving to mode rest dirty) m = absurd (cc)

pub gains-move : (i : ℕ) (from to : PageEntry) → Gains i from to → IsMove from to
gains-move i from to (Gains.lock mode m e) = IsMove.lock i mode m e
gains-move i from to (Gains.raise m e) = IsMove.raise i m e
gains-move i from to (Gains.share m e) = IsMove.share i m e
gains-move i from to (Gains.yield m e) = IsMove.yield i m e
gains-move i from to (Gains.change m e) = IsMove.change i m e

pub turns-move : (from to : PageEntry) → Turns from to → IsMove from to
turns-move from to (Turns.take m e) = IsMove.take m e
turns-move from to (Turns.write m e) = IsMove.write m e
turns-move from to (Turns.rebuild m e) = IsMove.rebuild m e

-- each row is of one of the groups
pub move-groups : {A : Type 0} (from to : PageEntry) → IsMove from to → ((i : ℕ) → Gains i from to → A) → (Turns from to → A) → ((i : ℕ) → Loses i from to → A) → A
move-groups from to (IsMove.lock i mode m e) f g h = f i (Gains.lock mode m e)
move-groups from to (IsMove.raise i m e) f g h = f i (Gains.raise m e)
move-groups from to (IsMove.share i m e) f g h = f i (Gains.share m e)
move-groups from to (IsMove.yield i m e) f g h = f i (Gains.yield m e)
move-groups from to (IsMove.drop i m e) f g h = h i (drop_evicts i from m, e)
move-groups from to (IsMove.take m e) f g h = g (Turns.take m e)
move-groups from to (IsMove.evict i m e) f g h = h i (m, e)
move-groups from to (IsMove.write m e) f g h = g (Turns.write m e)
move-groups from to (IsMove.change i m e) f g h = f i (Gains.change m e)
move-groups from to (IsMove.rebuild m e) f g h = g (Turns.rebuild m e)

coded_of : PageEntry → coded.Place
coded_of PageEntry.Free = variants.Free
coded_of (PageEntry.Shared set writer) = variants.Shared (record { bits = byte_of set }) writer
coded_of (PageEntry.Excl holder dirty) = variants.Excl holder dirty
coded_of (PageEntry.Moving to mode rest dirty) = variants.Moving to mode (record { bits = byte_of rest }) dirty
coded_of PageEntry.Lost = variants.Lost

back : (place : coded.Place) → InBytes place → coded_of (seen place) ≡ place
unfolding coded_of
back variants.Free bytes = refl
back (variants.Shared set writer) bytes = ap (λ (b : ℕ). variants.Shared (record { bits = b }) writer) (byte_of-members set.bits bytes)
back (variants.Excl holder dirty) bytes = refl
back (variants.Moving to mode rest dirty) bytes = ap (λ (b : ℕ). variants.Moving to mode (record { bits = b }) dirty) (byte_of-members rest.bits bytes)
back variants.Lost bytes = refl

-- places that laws see as one are one
pub same_seen : (a b : coded.Place) → InBytes a → InBytes b → seen a ≡ seen b → a ≡ b
same_seen a b in_a in_b e = sym (back a in_a) ∙ ap coded_of e ∙ back b in_b
