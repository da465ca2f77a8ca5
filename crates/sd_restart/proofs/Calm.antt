-- Syncs and reads, one after another: no crash leaves what none might leave before. For the goals of devices.rt.
use Rattle.std.proofs.Common.{◌≡◌, ◌≢◌, inl, ⊎_elim, ℕ, ◌+◌, ◌<◌, ◌≤◌, List, refl, sym, ◌∙◌, subst, arith}
use Rattle.std.proofs.lemmas.Bool.{cases_eq}
use Rattle.sd_rig.specs.Devices.{DeviceImages, Elapses, IsOneStep, IsUnchanged, Leaves, LeavesOnly, LeavesSame}
use Rattle.sd_rig.specs.Spans.{elapses-then, span-step, span-then, span-weaker}
use Rattle.sd_restart.specs.Devices.{Calms}

abbrev Outcomes : Type 1
Outcomes = ℕ → List ℕ → Type 0

abbrev Since : Type 1
Since = ℕ → DeviceImages → Type 0

-- one step after another; `earlier` is the rig's law
pub calm-then : (s s' s'' : DeviceImages) (l l' l'' : Outcomes) (a b c : ℕ) (since since' since'' : Since)
    → ((t u : ℕ) (img : DeviceImages) → t ≤ u → since'' u img → since'' t img)
    → Calms s s' l l' a b since since' → Calms s' s'' l' l'' b c since' since'' → Calms s s'' l l'' a c since since''
calm-then s s' s'' l l' l'' a b c since since' since'' earlier f g = record {
  reads = λ d. g.reads d ∙ f.reads d;
  less = λ d bytes left. f.less d bytes (g.less d bytes left);
  time = elapses-then a b c since since' since'' earlier f.time g.time;
  span = span-then a b c since' since'' (Leaves l) f.time.later g.time f.span
      (span-weaker b since'' (Leaves l') (Leaves l) (λ img left d le. f.less d (img d) (left d le)) g.span);
}

-- what changes nothing
pub calm-same : (s s' : DeviceImages) (l l' : Outcomes) (a b : ℕ) (since since' : Since) → ((img : DeviceImages) → since a img → Leaves l img)
    → IsUnchanged s s' l l' a b since since' → Calms s s' l l' a b since since'
calm-same s s' l l' a b since since' only u =
    let clock : b ≡ a = u.clock in
    record {
      reads = u.reads;
      less = λ d bytes left. (u.outcomes d bytes).0 left;
      time = record {
        later = omega (arith, clock);
        splits = λ t img le h. inl ((u.past t img).0 h);
        keeps = λ t img le h. (u.past t img).1 h;
      };
      span = record { each = λ img h. only img ((u.past a img).0 h) };
    }

-- nothing
pub calm-none : (s : DeviceImages) (l : Outcomes) (a : ℕ) (since : Since) → ((img : DeviceImages) → since a img → Leaves l img) → Calms s s l l a a since since
calm-none s l a since only = record {
  reads = λ d. refl;
  less = λ d bytes left. left;
  time = record { later = omega arith; splits = λ t img le h. inl h; keeps = λ t img le h. h };
  span = record { each = only };
}

-- a sync
pub calm-sync : (dev : ℕ) (s s' : DeviceImages) (l l' : Outcomes) (a b : ℕ) (since since' : Since) → ((d : ℕ) → s' d ≡ s d)
    → ((d : ℕ) → d ≢ dev → LeavesSame (l d) (l' d)) → ((bytes : List ℕ) → l' dev bytes → l dev bytes)
    → Elapses a b since since' → IsOneStep a since' l l' → Calms s s' l l' a b since since'
calm-sync dev s s' l l' a b since since' seen others here time step =
    let less : (d : ℕ) (bytes : List ℕ) → l' d bytes → l d bytes =
    λ d bytes left. ⊎_elim
    (λ (e : d ≡ dev). subst (λ (k : ℕ). l k bytes) (sym e) (here bytes (subst (λ (k : ℕ). l' k bytes) e left)))
    (λ (ne : d ≢ dev). (others d ne bytes).0 left)
    (cases_eq d dev) in
    record {
      reads = seen;
      less = less;
      time = time;
      span = span-step a since' l l' (Leaves l) step (λ img left. left) (λ img left d le. less d (img d) (left d le));
    }

-- a device that succeeded leaves nothing else
pub only-left : (bytes : List ℕ) (l l' : List ℕ → Type 0) → l bytes → LeavesOnly bytes l' → (c : List ℕ) → l' c → l c
only-left bytes l l' there only c left = subst l (sym ((only c).0 left)) there

-- and goes on so
pub settled-stays : (bytes : List ℕ) (l l' : List ℕ → Type 0) → LeavesOnly bytes l → ((c : List ℕ) → l' c → l c) → l' bytes → LeavesOnly bytes l'
settled-stays bytes l l' only less there c = (λ left. (only c).0 (less c left), λ is. subst l' (sym is) there)

-- the next device is settled, and those before it stay so
pub settled-next : (s s' s'' : DeviceImages) (l' l'' : Outcomes) (dev : ℕ) → ((d : ℕ) → s' d ≡ s d) → ((d : ℕ) → s'' d ≡ s' d)
    → ((d : ℕ) (bytes : List ℕ) → l'' d bytes → l' d bytes) → ((d : ℕ) → d ≤ 8 → l'' d (s'' d)) → dev ≤ 8
    → LeavesOnly (s' dev) (l'' dev) → ((d : ℕ) → d < dev → LeavesOnly (s d) (l' d)) → (d : ℕ) → d < dev + 1 → LeavesOnly (s d) (l'' d)
settled-next s s' s'' l' l'' dev reads reads' less there few here before d lt = ⊎_elim
    (λ (e : d ≡ dev). subst (λ (k : ℕ). LeavesOnly (s k) (l'' k)) (sym e) (subst (λ (bytes : List ℕ). LeavesOnly bytes (l'' dev)) (reads dev) here))
    (λ (ne : d ≢ dev).
    settled-stays (s d) (l' d) (l'' d) (before d (omega (arith, lt, ne))) (less d)
    (subst (l'' d) (reads' d ∙ reads d) (there d (omega (arith, lt, few)))))
    (cases_eq d dev)

-- nothing changes where nothing is done
pub unchanged-none : (s : DeviceImages) (l : Outcomes) (a : ℕ) (since : Since) → IsUnchanged s s l l a a since since
unchanged-none s l a since = record {
  reads = λ d. refl;
  outcomes = λ d bytes. (λ left. left, λ left. left);
  clock = refl;
  past = λ t img. (λ h. h, λ h. h);
}

-- nor by one step after another of which neither changes anything
pub unchanged-then : (s s' s'' : DeviceImages) (l l' l'' : Outcomes) (a b c : ℕ) (since since' since'' : Since)
    → IsUnchanged s s' l l' a b since since' → IsUnchanged s' s'' l' l'' b c since' since'' → IsUnchanged s s'' l l'' a c since since''
unchanged-then s s' s'' l l' l'' a b c since since' since'' f g = record {
  reads = λ d. g.reads d ∙ f.reads d;
  outcomes = λ d bytes. (
    λ left. (f.outcomes d bytes).0 ((g.outcomes d bytes).0 left),
    λ left. (g.outcomes d bytes).1 ((f.outcomes d bytes).1 left),
  );
  clock = g.clock ∙ f.clock;
  past = λ t img. (λ h. (f.past t img).0 ((g.past t img).0 h), λ h. (g.past t img).1 ((f.past t img).1 h));
}
