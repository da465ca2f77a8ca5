-- Look-ups by page among the asks. It serves asks.rt.
use Rattle.std.proofs.Common.{◌≡◌, ◌≢◌, ◌⊎◌, inl, inr, ⊎_elim, ℕ, Ok, Err, Bool, true, false, cond, not, List, [], ◌∷◌, Option, None, Some, refl, sym, ap, ◌∙◌, subst}
use Rattle.std.specs.Prelude.{IsSome, Result, OnOk, OnErr, unwrap_or}
use Rattle.std.specs.Option.{option_map}
use Rattle.std.specs.Ordering.{nat_cmp, is_eq, eq_by_cmp}
use Rattle.std.specs.List.{IsDistinct}
use Rattle.std.specs.Map.Calls.{RetainsPairs}
use Rattle.std.proofs.lemmas.Map.{lookup-none}
use Rattle.std.proofs.lemmas.Map.Entries.{none_past_head}
use Rattle.std.proofs.lemmas.Map.Keys.{IsDistinct-tail}
use Rattle.std.proofs.lemmas.Cmp.{eq_by_cmp_equiv, nat_cmp_total}
use Rattle.std.specs.declared.cmp.Ordering.{Ordering}
use Rattle.std.specs.declared.cmp.Ordering.TheVariants as orderings
use Rattle.std.specs.Map.{lookup, keys_of}
use Rattle.std.specs.BTreeMap.{is_at}
use Rattle.std.proofs.lemmas.Bool.{cases_eq}
use Rattle.std.proofs.lemmas.Map.Lookups.{exact_unsigned}
use Rattle.sd_base.specs.declared.place.Mode.{Mode}
use Rattle.sd_pagelock.specs.declared.queue.Ask.{Ask}
use Rattle.sd_pagelock.specs.Places.{PageEntry}
use Rattle.sd_pagelock.specs.Asks.{Queues, AreAsked, IsOneEach, asks_for, queued, is_open_ask, open_asks, nobody}
use Rattle.sd_pagelock.proofs.Queues.{one_each-queued, one_each-filter}

-- the same page
pub same_page : (p q : ℕ) → is_at (nat_cmp p) q ≡ true → p ≡ q
same_page p q e = go (nat_cmp p q) e (exact_unsigned p q)
  where
    go : (o : Ordering) → is_eq o ≡ true → (o ≡ orderings.Equal → p ≡ q) → p ≡ q
    go orderings.Less e f = absurd (cc)
    go orderings.Equal e f = f refl
    go orderings.Greater e f = absurd (cc)

-- another page
pub elsewhere : (p q : ℕ) → q ≢ p → is_at (nat_cmp p) q ≡ false
elsewhere p q ne = go (nat_cmp p q) (λ e. ne (sym (exact_unsigned p q e)))
  where
    go : (o : Ordering) → (o ≡ orderings.Equal → ⊥) → is_eq o ≡ false
    go orderings.Less differs = refl
    go orderings.Equal differs = absurd (differs refl)
    go orderings.Greater differs = refl

pub is_there : {X : Type 0} {x : X} {o : Option X} → Some x ≡ o → IsSome o
is_there {x = x} e = subst IsSome e refl

pub absent : {X : Type 0} {x : X} {o : Option X} → None ≡ o → o ≡ Some x → ⊥
absent n s = absurd (cc)

-- nobody asks twice for a page
pub once : (queues : Queues) (p : ℕ) → AreAsked queues → IsOneEach (asks_for queues p)
once queues p asked = go (lookup (is_at (nat_cmp p)) queues) (asked p)
  where
    go : (o : Option (List Ask)) → ((asks : List Ask) → o ≡ Some asks → IsOneEach asks) → IsOneEach (unwrap_or o [])
    go None asked = tt
    go (Some asks) asked = asked asks refl

-- the asks for one page changed
pub one_changed : (old new : Queues) (p : ℕ) → AreAsked old → ((q : ℕ) → q ≢ p → lookup (is_at (nat_cmp q)) new ≡ lookup (is_at (nat_cmp q)) old) → ((asks : List Ask) → lookup (is_at (nat_cmp p)) new ≡ Some asks → IsOneEach asks) → AreAsked new
one_changed old new p asked others here q asks found = ⊎_elim
    (λ e. here asks (ap (λ (z : ℕ). lookup (is_at (nat_cmp z)) new) (sym e) ∙ found))
    (λ ne. asked q asks (sym (others q ne) ∙ found))
    (cases_eq q p)

either : {A B : Type 0} {P Q : Type 0} (r : Result A B) → OnOk r P → OnErr r Q → P ⊎ Q
either (Ok x) p q = inl p
either (Err x) p q = inr q

inside : {x y : List Ask} → Some x ≡ Some y → x ≡ y
inside e = cc

-- one more ask, or none for want of memory
pub asked-add : {A B : Type 0} (r : Result A B) (old new : Queues) (p by : ℕ) (mode : Mode) → AreAsked old
    → OnOk r (lookup (is_at (nat_cmp p)) new ≡ Some (queued by mode (asks_for old p)))
    → OnErr r (lookup (is_at (nat_cmp p)) new ≡ lookup (is_at (nat_cmp p)) old)
    → ((q : ℕ) → q ≢ p → lookup (is_at (nat_cmp q)) new ≡ lookup (is_at (nat_cmp q)) old) → AreAsked new
asked-add r old new p by mode asked ok err others = one_changed old new p asked others (λ asks found. ⊎_elim
    (λ e. subst IsOneEach (inside (sym e ∙ found)) (one_each-queued by mode (asks_for old p) (once old p asked)))
    (λ e. asked p asks (sym e ∙ found))
    (either r ok err))

-- some asks were taken off
pub asked-close : (old new : Queues) (p : ℕ) (place : PageEntry) → AreAsked old
    → lookup (is_at (nat_cmp p)) new ≡ option_map (open_asks place) (lookup (is_at (nat_cmp p)) old)
    → ((q : ℕ) → q ≢ p → lookup (is_at (nat_cmp q)) new ≡ lookup (is_at (nat_cmp q)) old) → AreAsked new
asked-close old new p place asked here others =
    one_changed old new p asked others (λ asks found. kept asks (lookup (is_at (nat_cmp p)) old) (sym here ∙ found) (asked p))
  where
    kept : (asks : List Ask) (o : Option (List Ask)) → option_map (open_asks place) o ≡ Some asks → ((xs : List Ask) → o ≡ Some xs → IsOneEach xs) → IsOneEach asks
    kept asks None e was = absurd (cc)
    kept asks (Some xs) e was = subst IsOneEach (inside e) (one_each-filter (is_open_ask place) xs (was xs refl))

abbrev pub nonempty : List Ask → Option (List Ask)
nonempty [] = None
nonempty (ask ∷ asks) = Some (ask ∷ asks)

-- what is listed for a page of which some asks are kept
abbrev pub remaining : (List Ask → List Ask) → Option (List Ask) → Option (List Ask)
remaining keep None = None
remaining keep (Some asks) = nonempty (keep asks)

one_kept : (f g : List Ask → List Ask) (t : Bool) (w v : List Ask) (ks ls : Option (List Ask)) → w ≡ f v → (t ≡ true → (ls ≡ None) × (f v ≡ g v)) → ks ≡ remaining g ls
    → cond {A = Option (List Ask)} (not (nobody w)) (cond {A = Option (List Ask)} t (Some w) ks) ks ≡ remaining g (cond {A = Option (List Ask)} t (Some v) ls)
one_kept f g true [] v ks ls e past rest = rest ∙ ap (remaining g) (past refl).0 ∙ ap nonempty (e ∙ (past refl).1)
one_kept f g true (x ∷ xs) v ks ls e past rest = ap nonempty (e ∙ (past refl).1)
one_kept f g false [] v ks ls e past rest = rest
one_kept f g false (x ∷ xs) v ks ls e past rest = rest

looked_up : (test : ℕ → Bool) (b : Bool) (e : ℕ × List Ask) (es : Queues) → lookup test (cond {A = Queues} b (e ∷ es) es) ≡ cond {A = Option (List Ask)} b (lookup test (e ∷ es)) (lookup test es)
looked_up test true e es = refl
looked_up test false e es = refl

-- of each queue what is kept for its page, and only those in which somebody asks
pub kept_each : {F : Type 0} (T : F → ℕ → List Ask → Bool → List Ask → F → Type 0) (f : F) (keep : ℕ → List Ask → List Ask)
    → ((p : ℕ) (v : List Ask) (b : Bool) (w : List Ask) (f' : F) → T f p v b w f' → (w ≡ keep p v) × (b ≡ not (nobody w)) × (f' ≡ f))
    → (old new : Queues) → IsDistinct (eq_by_cmp nat_cmp) (keys_of old) → RetainsPairs T f old new
    → (p : ℕ) → lookup (is_at (nat_cmp p)) new ≡ remaining (keep p) (lookup (is_at (nat_cmp p)) old)
kept_each T f keep says [] new apart r p = ap (lookup (is_at (nat_cmp p))) r
kept_each {F} T f keep says (e ∷ es) new apart r p =
    let said = says e.0 e.1 r.0 r.1 r.2 r.4 in
    let after : RetainsPairs T f es r.3 = subst (λ (g : F). RetainsPairs T g es r.3) said.2 r.5 in
    let rest : lookup (is_at (nat_cmp p)) r.3 ≡ remaining (keep p) (lookup (is_at (nat_cmp p)) es) = kept_each T f keep says es r.3 (IsDistinct-tail (eq_by_cmp nat_cmp) e.0 (keys_of es) apart) after p in
    ap (lookup (is_at (nat_cmp p))) (r.6 ∙ ap (λ (b : Bool). cond {A = Queues} b ((e.0, r.1) ∷ r.3) r.3) said.1)
    ∙ looked_up (is_at (nat_cmp p)) (not (nobody r.1)) (e.0, r.1) r.3
    ∙ one_kept (keep e.0) (keep p) (is_at (nat_cmp p) e.0) r.1 e.1 (lookup (is_at (nat_cmp p)) r.3) (lookup (is_at (nat_cmp p)) es) said.0
    (λ t. (lookup-none (is_at (nat_cmp p)) es (none_past_head (eq_by_cmp_equiv nat_cmp_total) p e es apart t), ap (λ (z : ℕ). keep z e.1) (sym (same_page p e.0 t)))) rest

pub asks_for-kept : (keep : List Ask → List Ask) → keep [] ≡ [] → (old new : Queues) (p : ℕ) → lookup (is_at (nat_cmp p)) new ≡ remaining keep (lookup (is_at (nat_cmp p)) old) → asks_for new p ≡ keep (asks_for old p)
asks_for-kept keep none old new p e = ap (λ (o : Option (List Ask)). unwrap_or o []) e ∙ go (lookup (is_at (nat_cmp p)) old)
  where
    full : (xs : List Ask) → unwrap_or (nonempty xs) [] ≡ xs
    full [] = refl
    full (x ∷ xs) = refl

    go : (o : Option (List Ask)) → unwrap_or (remaining keep o) [] ≡ keep (unwrap_or o [])
    go None = sym none
    go (Some xs) = full (keep xs)

pub asked-kept : (keep : ℕ → List Ask → List Ask) → ((p : ℕ) (xs : List Ask) → IsOneEach xs → IsOneEach (keep p xs))
    → (old new : Queues) → AreAsked old → ((p : ℕ) → lookup (is_at (nat_cmp p)) new ≡ remaining (keep p) (lookup (is_at (nat_cmp p)) old)) → AreAsked new
asked-kept keep apart old new asked e p asks found = go (lookup (is_at (nat_cmp p)) old) (asked p) (sym (e p) ∙ found)
  where
    full : (xs : List Ask) → nonempty xs ≡ Some asks → IsOneEach xs → IsOneEach asks
    full [] e each = absurd (absent e refl)
    full (x ∷ xs) e each = subst IsOneEach (inside e) each

    go : (o : Option (List Ask)) → ((xs : List Ask) → o ≡ Some xs → IsOneEach xs) → remaining (keep p) o ≡ Some asks → IsOneEach asks
    go None was e = absurd (absent e refl)
    go (Some xs) was e = full (keep p xs) e (apart p xs (was xs refl))
