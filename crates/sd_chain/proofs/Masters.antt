-- A put of a master, Ok or failed: each image has the old start place or the new one. For the law `put_master`.
use Rattle.std.proofs.Common.{◌≡◌, ◌≢◌, ◌⊎◌, inl, inr, ⊎_elim, ℕ, ◌≤◌, List, Option, Some, refl, sym, ap, ◌∙◌, subst, arith}
use Rattle.std.specs.Prelude.{is_some}
use Rattle.sd_base.specs.Twin.{chosen_body}
use Rattle.sd_logrec.specs.Kept.{Master, area, master, master_of, reading}
use Rattle.sd_page.specs.Page.{Page}
use Rattle.sd_log.specs.Logs.{LogState, StandsOn, forced}
use Rattle.sd_rig.specs.Devices.{AgreesOutside}
use Rattle.sd_rig.specs.Devices as rig
use Rattle.sd_rig.specs.Puts.{Puts}
use Rattle.sd_chain.proofs.Devices.{part_behind}
use Rattle.sd_chain.proofs.Narrowed.{narrowed-safe}
use Rattle.sd_chain.specs.Logs.{Outcomes, may_of, tails_of}
use Rattle.sd_chain.specs.Soundly.{IsReady}
use Rattle.sd_chain.specs.Starts.{IsLater, NamesLater, Says, only_if}
use Rattle.sd_chain.specs.ChecksKept.{MasterPutKeeps, MasterPutLeavesSound}
use Rattle.sd_chain.proofs.Ready.{log-same}
use Rattle.sd_chain.proofs.Changed.{changed-soundly, lsns-same, may-less}
use Rattle.sd_chain.proofs.Starts.{later-keeps, puts-slots}
use Rattle.sd_chain.proofs.TwoPlaces.{two_places-left}

area_same : (old new : List ℕ) → AgreesOutside 0 130 old new → area new ≡ area old
unfolding area
area_same old new a = part_behind 0 130 130 1048576 old new a (omega arith)

master_by : (bytes : List ℕ) (o : Option (List ℕ)) → chosen_body 0 64 bytes ≡ o → master bytes ≡ master_of o
unfolding master
master_by bytes o e = ap master_of e

stands_same : (l : LogState) (old new : List ℕ) → area new ≡ area old → StandsOn l old → StandsOn l new
stands_same l old new a s = ap (reading l.start) a ∙ s

-- what a put of the master leaves of the device: the former master, with the log ready behind it, or the log from the later place
pub put-outcome : (i : ℕ) (l l' : LogState) (body : List ℕ) (seen : rig.DeviceImages) (leaves : Outcomes) (img : rig.DeviceImages)
    → NamesLater (seen i) l l' body → IsReady i (seen i) l
    → Puts i 0 64 body seen leaves img → ((master (img i) ≡ master (seen i)) × IsReady i (img i) l) ⊎ IsLater (seen i) l l' (img i)
put-outcome i l l' body seen leaves img names r f =
    let slots = puts-slots i body seen leaves img names.well r.slots f in
    let same = area_same (seen i) (img i) f.outside in
    ⊎_elim
    (λ old.
    let m : master (img i) ≡ master (seen i) = master_by (img i) (chosen_body 0 64 (seen i)) old
    ∙ sym (master_by (seen i) (chosen_body 0 64 (seen i)) refl) in
    inl (
      m,
      record {
        start = ap (λ (x : Master). x.start) m ∙ r.start;
        either = ⊎_elim (λ s. inl (stands_same l (seen i) (img i) same s))
            (λ s. inr (stands_same (forced l) (seen i) (img i) same s)) r.either;
        slots = slots;
        sound = log-same i (seen i) (img i) l old m r.sound;
        sound_forced = log-same i (seen i) (img i) (forced l) old m r.sound_forced;
      },
    ))
    (λ new.
    let m : master (img i) ≡ master_of (Some body) = master_by (img i) (Some body) new in
    inr (record {
      chosen = ap (λ (o : Option (List ℕ)). is_some o) new;
      start = ap (λ (x : Master). x.start) m ∙ names.start;
      says = subst (Says (seen i) l l') (sym m) names.says;
      stands = stands_same l' (seen i) (img i) same names.stands;
      slots = slots;
    }))
    f.whole

-- the log from its old place, or from the later one
pub master-outcome : (i : ℕ) (l l' : LogState) (body : List ℕ) (seen : rig.DeviceImages) (leaves : Outcomes) (img : rig.DeviceImages)
    → NamesLater (seen i) l l' body → IsReady i (seen i) l
    → Puts i 0 64 body seen leaves img → IsReady i (img i) l ⊎ IsLater (seen i) l l' (img i)
master-outcome i l l' body seen leaves img names r f = ⊎_elim (λ old. inl old.1) (λ new. inr new) (put-outcome i l l' body seen leaves img names r f)

-- after a put of the master, whatever it answered
pub master_put-keeps : (leaves leaves' : Outcomes) → MasterPutKeeps leaves leaves'
master_put-keeps leaves leaves' i gone body old new seen left s less at short names outcome = record {
  either = λ bytes l. let o = outcome bytes l in
      subst (λ (b : List ℕ). IsReady i b (old i) ⊎ IsLater (seen i) (old i) (new i) b) o.1
      (master-outcome i (old i) (new i) body seen leaves o.0 names (s.ready i at.low at.high (seen i) left) o.2);
  first = changed-soundly i leaves old_place old old at.low s (λ d ne b l. less d ne b l.0) (λ j ne. refl) (λ b l. l.1 refl)
      (λ keeps. lsns-same (tails_of old) (tails_of old) (may_of leaves) (may_of old_place) keeps keeps (λ j. refl)
      (may-less i leaves old_place at.low (λ d ne b l. less d ne b l.0)) (s.lsns keeps));
  second = later-keeps leaves (only_if i (IsLater (seen i) (old i) (new i)) leaves') i gone old new (seen i) left s
      (λ d ne b l. less d ne b l.0) at short (λ b l. l.1 refl);
}
  where
    old_place : ℕ → List ℕ → Type 0
    old_place = only_if i (λ bytes. IsReady i bytes (old i)) leaves'

-- an image that a put of the master may leave passes all seven checks
pub master_put-left : (leaves : Outcomes) → MasterPutLeavesSound leaves
master_put-left leaves i gone body old new seen img left s at short names a f =
    two_places-left here (λ bytes. IsReady i bytes (old i)) (IsLater (seen i) (old i) (new i)) i old new img at.high
    (master_put-keeps leaves here i gone body old new seen left s (λ d ne b l. l.0 ne) at short names
    (λ b l. (img, sym (l.1 refl), f)))
    (record {
      version = a.version;
      version' = a.version';
      safe = narrowed-safe (may_of leaves) (may_of here) fewer (tails_of old) a.version a.safe;
      safe' = narrowed-safe (may_of leaves) (may_of here) fewer (tails_of new) a.version' a.safe';
      none = a.none;
      none' = a.none';
    })
    (λ d le. (λ ne. f.others d le ne, λ e. ap img e))
  where
    -- what may be left, but this image's device i
    here : ℕ → List ℕ → Type 0
    here d bytes = (d ≢ i → leaves d bytes) × (d ≡ i → bytes ≡ img i)

    fewer : (p : ℕ) (x : Page) → may_of here p x → may_of leaves p x
    fewer p x m = let low = at.low in (m.0, m.1.0 (λ e. omega (arith, low, e)), m.2)
