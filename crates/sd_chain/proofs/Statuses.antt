-- A complex is opened, and instances come and go. It serves the laws on them.
use Rattle.std.proofs.Common.{◌≡◌, inl, ⊎_elim, ℕ, Bool, true, false, cond, [], ◌++◌, None, Some, refl, sym, ap, ◌∙◌, subst, append-nil}
use Rattle.std.specs.Prelude.{is_some}
use Rattle.sd_page.specs.Page.{Page}
use Rattle.sd_chain.specs.Storage.{newest}
use Rattle.sd_chain.specs.Laws.{May}
use Rattle.sd_chain.proofs.Images.{opening-safe}
use Rattle.sd_pagelock.specs.Places.{PageEntry, changed, holds, passes, uses}
use Rattle.sd_pagelock.specs.Rows.{nowhere}
use Rattle.sd_pagelock.proofs.Members.{not_both}
use Rattle.sd_chain.specs.Coherent.{NoneBefore}
use Rattle.sd_chain.specs.Statuses.{OpeningIsCoherent, StatusKeeps}

nobody : (b : Bool) (i : ℕ) (x : Page) → None ≡ cond (holds (nowhere b) i) (Some x) None
nobody true i x = refl
nobody false i x = refl

nothing : (b : Bool) (x : Page) → None ≡ cond (passes (nowhere b)) (Some x) None
nothing true x = refl
nothing false x = refl

unused : (b : Bool) (i : ℕ) → uses (nowhere b) i ≡ true → ⊥
unused true i u = not_both u refl
unused false i u = not_both u refl

is_changed : (b : Bool) → b ≡ changed (nowhere b)
is_changed true = refl
is_changed false = refl

is_lost : (b : Bool) → b ≡ true → nowhere b ≡ PageEntry.Lost
is_lost true e = refl
is_lost false e = not_both e refl

pub opening-coherent : OpeningIsCoherent
opening-coherent img rec_lsn lost up opens none read = record {
  safe = opening-safe img opens.sound opens.eight opens.numbered opens.order;
  eight = (none, refl);
  reads = λ p. refl;
  still = λ e p x m. m;
  copies = λ i p. nobody (lost p) i (newest img p);
  moving = λ p. nothing (lost p) (newest img p);
  live = λ i p u. absurd (unused (lost p) i u);
  unforced = λ j p. inl tt;
  ready = λ i lo e. inl refl;
  marks = λ p. read.marks p ∙ is_changed (lost p);
  clean = λ p e x m. m ∙ read.free p (is_changed (lost p) ∙ e);
  first = λ p l e x m j. subst (λ (v : Page). NoneBefore p l v (img.logs j ++ [])) (sym m)
      (subst (NoneBefore p l (img.disk p)) (sym (append-nil (img.logs j))) (read.first p l e j));
  below = λ p l e found. absurd (found (is_lost (lost p) (sym (read.marks p) ∙ ap is_some e)));
}

pub status-keeps : (may : May) → StatusKeeps may
status-keeps may b d active up c stays settled = record {
  safe = c.safe;
  eight = c.eight;
  reads = c.reads;
  still = c.still;
  copies = c.copies;
  moving = c.moving;
  live = λ i p u. ⊎_elim (λ a. a) (λ none. not_both u (none p)) (stays i (c.live i p u));
  unforced = λ j p. c.unforced j p;
  ready = λ i lo e. ⊎_elim (λ was. c.ready i lo was) (λ l. inl l) (settled i lo e);
  marks = c.marks;
  clean = c.clean;
  first = c.first;
  below = c.below;
}
