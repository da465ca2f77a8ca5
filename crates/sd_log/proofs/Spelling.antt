-- Records that are kept as their bytes, each with a slot. It serves the goals of spellings.rt.
use Rattle.std.proofs.Common.{◌≡◌, ◌⊎◌, inl, inr, ℕ, zero, suc, ◌+◌, ◌-◌, ◌<◌, ◌≤◌, List, [], ◌∷◌, ◌++◌, length, take, drop, get_or, refl, sym, ap, subst, ◌∙◌, arith, append_assoc, length-append}
use Rattle.std.specs.Prelude.{Option, Some, Result, Ok, Err, map, slice_get, vec_len}
use Rattle.std.specs.Global.{Vec}
use Rattle.std.specs.List.{AllByRecursion}
use Rattle.std.proofs.lemmas.List.{drop-map, drop_all, drop_at, length-map, map-append, take_all, take_at, take_more}
use Rattle.std.proofs.lemmas.List.Elements.{recursion_from_All}
use Rattle.std.proofs.lemmas.Option.{slice_get-get_or, slice_get_cases}
use Rattle.sd_base.specs.declared.refusal.Refusal.{Refusal}
use Rattle.sd_base.specs.declared.refusal.Refusal.TheVariants as R
use Rattle.sd_logrec.specs.declared.record.Record.{Record}
use Rattle.sd_logrec.specs.Kept.{Records, placed_from, spelled}
use Rattle.sd_logrec.specs.Spelling.{HasSpelling, spelling}
use Rattle.sd_logrec.specs.View.{flat}
use Rattle.sd_logrec.proofs.Groups.{spelled_within}
use Rattle.sd_log.specs.declared.placed.Placed.{Placed}
use Rattle.sd_log.specs.Logs.{AreSpelled}
use Rattle.sd_log.specs.Marks.{entry}
use Rattle.sd_log.specs.Parts.{record_of}
use Rattle.sd_log.specs.Spellings.{SpellingsState, record_in}
use Rattle.sd_log.specs.SpellingsInside.{AreSlots, IsSpellings, at_slots, lowered, read_of, records_of, spellings_view}
use Rattle.sd_log.specs.declared.spellings.Slot.{Slot}
use Rattle.sd_log.specs.declared.spellings.Spellings.TheInside.{Inside}
use Rattle.sd_log.proofs.Parted.{spelled-more}
use Rattle.sd_log.proofs.Tails.{all-more}

-- ---- records and their bytes

pub records_placed : (at : ℕ) (rs : List Record) → map record_in (placed_from at rs) ≡ rs
records_placed at [] = refl
records_placed at (r ∷ rs) = ap (λ (l : List Record). r ∷ l) (records_placed (at + length (spelling r)) rs)

records_spelled : (rs : List Record) → AllByRecursion HasSpelling rs → records_of (spelled rs) ≡ rs
records_spelled rs each = ap read_of (spelled_within (length (spelled rs)) 0 rs each (omega arith)) ∙ records_placed 0 rs

spelled_parts : (i : ℕ) (rs : List Record) → spelled rs ≡ spelled (take i rs) ++ spelled (drop i rs)
spelled_parts zero rs = refl
spelled_parts (suc i) [] = refl
spelled_parts (suc i) (r ∷ rs) = ap (λ (l : List ℕ). spelling r ++ l) (spelled_parts i rs) ∙ sym (append_assoc (spelling r) (spelled (take i rs)) (spelled (drop i rs)))

spelled_behind : (i : ℕ) (rs : List Record) → drop (length (spelled (take i rs))) (spelled rs) ≡ spelled (drop i rs)
spelled_behind i rs = ap (drop (length (spelled (take i rs)))) (spelled_parts i rs) ∙ drop_at (spelled (take i rs)) (spelled (drop i rs)) (length (spelled (take i rs))) refl

spelled_front : (i : ℕ) (rs : List Record) → take (length (spelled (take i rs))) (spelled rs) ≡ spelled (take i rs)
spelled_front i rs = ap (take (length (spelled (take i rs)))) (spelled_parts i rs) ∙ take_at (spelled (take i rs)) (spelled (drop i rs)) (length (spelled (take i rs))) refl

each_front : {X : Type 0} (P : X → Type 0) (i : ℕ) (xs : List X) → AllByRecursion P xs → AllByRecursion P (take i xs)
each_front P zero xs all = tt
each_front P (suc i) [] all = tt
each_front P (suc i) (x ∷ xs) all = (all.0, each_front P i xs all.1)

each_behind : {X : Type 0} (P : X → Type 0) (i : ℕ) (xs : List X) → AllByRecursion P xs → AllByRecursion P (drop i xs)
each_behind P zero xs all = all
each_behind P (suc i) [] all = tt
each_behind P (suc i) (x ∷ xs) all = each_behind P i xs all.1

-- ---- slots

slots_count : (at : ℕ) (ss : List Slot) (rs : List Record) → AreSlots at ss rs → length (at_slots ss rs) ≡ length ss
slots_count at [] rs are = refl
slots_count at (s ∷ ss) [] are = absurd are
slots_count at (s ∷ ss) (r ∷ rs) are = ap suc (slots_count (at + length (spelling r)) ss rs are.2)

slots_records : (at : ℕ) (ss : List Slot) (rs : List Record) → AreSlots at ss rs → map record_in (at_slots ss rs) ≡ rs
slots_records at [] [] are = refl
slots_records at [] (r ∷ rs) are = absurd are
slots_records at (s ∷ ss) [] are = absurd are
slots_records at (s ∷ ss) (r ∷ rs) are = ap (λ (l : List Record). r ∷ l) (slots_records (at + length (spelling r)) ss rs are.2)

slots_front : (at i : ℕ) (ss : List Slot) (rs : List Record) → AreSlots at ss rs → AreSlots at (take i ss) (take i rs)
slots_front at zero ss rs are = tt
slots_front at (suc i) [] [] are = tt
slots_front at (suc i) [] (r ∷ rs) are = absurd are
slots_front at (suc i) (s ∷ ss) [] are = absurd are
slots_front at (suc i) (s ∷ ss) (r ∷ rs) are = (are.0, are.1, slots_front (at + length (spelling r)) i ss rs are.2)

entries_front : (i : ℕ) (ss : List Slot) (rs : List Record) → at_slots (take i ss) (take i rs) ≡ take i (at_slots ss rs)
entries_front zero ss rs = refl
entries_front (suc i) [] rs = refl
entries_front (suc i) (s ∷ ss) [] = refl
entries_front (suc i) (s ∷ ss) (r ∷ rs) = ap (λ (l : Records). (s.place, r) ∷ l) (entries_front i ss rs)

pub slots_more : (at : ℕ) (ss : List Slot) (rs : List Record) (s : Slot) (r : Record) → AreSlots at ss rs → s.at ≡ at + length (spelled rs) → s.lsn ≡ (flat r).lsn → AreSlots at (ss ++ s ∷ []) (rs ++ r ∷ [])
slots_more at [] [] s r are place lsn = let here : s.at ≡ at = omega arith in (here, lsn, tt)
slots_more at [] (x ∷ rs) s r are place lsn = absurd are
slots_more at (y ∷ ss) [] s r are place lsn = absurd are
slots_more at (y ∷ ss) (x ∷ rs) s r are place lsn =
    let behind : s.at ≡ at + length (spelling x) + length (spelled rs) = omega (arith, length-append (spelling x) (spelled rs)) in
    (are.0, are.1, slots_more (at + length (spelling x)) ss rs s r are.2 behind lsn)

pub entries_more : (at : ℕ) (ss : List Slot) (rs : List Record) (s : Slot) (r : Record) → AreSlots at ss rs → at_slots (ss ++ s ∷ []) (rs ++ r ∷ []) ≡ at_slots ss rs ++ (s.place, r) ∷ []
entries_more at [] [] s r are = refl
entries_more at [] (x ∷ rs) s r are = absurd are
entries_more at (y ∷ ss) [] s r are = absurd are
entries_more at (y ∷ ss) (x ∷ rs) s r are = ap (λ (l : Records). (y.place, x) ∷ l) (entries_more (at + length (spelling x)) ss rs s r are.2)

-- what the slot of an index tells
record Tells (at i : ℕ) (ss : List Slot) (rs : List Record) (s : Slot) : Type 0 where
  pub rec : Record
  pub rest : List Record
  pub start : s.at ≡ at + length (spelled (take i rs))
  pub lsn : s.lsn ≡ (flat rec).lsn
  pub is : drop i rs ≡ rec ∷ rest
  pub entry : slice_get (at_slots ss rs) i ≡ Some (s.place, rec)

first_tells : (at : ℕ) (s : Slot) (ss : List Slot) (r : Record) (rs : List Record) → AreSlots at (s ∷ ss) (r ∷ rs) → Tells at 0 (s ∷ ss) (r ∷ rs) s
first_tells at s ss r rs are =
    let here : s.at ≡ at = are.0 in
    record { rec = r; rest = rs; start = omega arith; lsn = are.1; is = refl; entry = refl }

tells : (at i : ℕ) (ss : List Slot) (rs : List Record) (s : Slot) → AreSlots at ss rs → slice_get ss i ≡ Some s → Tells at i ss rs s
tells at i [] rs s are e = absurd (cc)
tells at i (x ∷ ss) [] s are e = absurd are
tells at zero (x ∷ ss) (r ∷ rs) s are e = let same : x ≡ s = cc in subst (Tells at 0 (x ∷ ss) (r ∷ rs)) same (first_tells at x ss r rs are)
tells at (suc i) (x ∷ ss) (r ∷ rs) s are e =
    let t = tells (at + length (spelling r)) i ss rs s are.2 e in
    record {
      rec = t.rec;
      rest = t.rest;
      start = omega (arith, t.start, length-append (spelling r) (spelled (take i rs)));
      lsn = t.lsn;
      is = t.is;
      entry = t.entry;
    }

-- ---- records in memory

each_of : (ps : List Placed) → AllByRecursion (λ (p : Placed). HasSpelling p.rec) ps → AllByRecursion HasSpelling (map record_of ps)
each_of [] h = tt
each_of (p ∷ ps) h = (h.0, each_of ps h.1)

pub each_record : (ps : List Placed) → AreSpelled ps → AllByRecursion HasSpelling (map record_of ps)
each_record ps h = each_of ps (recursion_from_All (λ (p : Placed). HasSpelling p.rec) ps h)

-- the first ones have no more bytes than all
pub front_text : (ps : List Placed) (i : ℕ) → length (spelled (map record_of (take i ps))) ≤ length (spelled (map record_of ps))
front_text [] zero = omega arith
front_text [] (suc i) = omega arith
front_text (x ∷ ps) zero = omega arith
front_text (x ∷ ps) (suc i) = omega (arith, front_text ps i, length-append (spelling x.rec) (spelled (map record_of ps)), length-append (spelling x.rec) (spelled (map record_of (take i ps))))

-- one record more
module _ (ps : List Placed) (i at : ℕ) (ss : List Slot) (p : Placed) (s : Slot) (lt : i < length ps) (is : p ≡ get_or ps i p) where
  front_more : take (i + 1) ps ≡ take i ps ++ p ∷ []
  front_more = take_more ps i p lt ∙ ap (λ (x : Placed). take i ps ++ x ∷ []) (sym is)

  records_more : map record_of (take (i + 1) ps) ≡ map record_of (take i ps) ++ p.rec ∷ []
  records_more = ap (map record_of) front_more ∙ map-append record_of (take i ps) (p ∷ [])

  pub slots_next : AreSlots 0 ss (map record_of (take i ps)) → at ≡ length (spelled (map record_of (take i ps))) → s.at ≡ at → s.lsn ≡ (flat p.rec).lsn
      → AreSlots 0 (ss ++ s ∷ []) (map record_of (take (i + 1) ps))
  slots_next are here start lsn =
      subst (AreSlots 0 (ss ++ s ∷ [])) (sym records_more) (slots_more 0 ss (map record_of (take i ps)) s p.rec are (omega arith) lsn)

  pub entries_next : AreSlots 0 ss (map record_of (take i ps)) → at_slots ss (map record_of (take i ps)) ≡ map entry (take i ps) → s.place ≡ p.place
      → at_slots (ss ++ s ∷ []) (map record_of (take (i + 1) ps)) ≡ map entry (take (i + 1) ps)
  entries_next are same place =
      ap (at_slots (ss ++ s ∷ [])) records_more ∙ entries_more 0 ss (map record_of (take i ps)) s p.rec are
      ∙ ap (λ (l : Records). l ++ (s.place, p.rec) ∷ []) same ∙ ap (λ n. map entry (take i ps) ++ (n, p.rec) ∷ []) place
      ∙ sym (ap (map entry) front_more ∙ map-append entry (take i ps) (p ∷ []))

  pub text_next : at ≡ length (spelled (map record_of (take i ps))) → at + length (spelling p.rec) ≡ length (spelled (map record_of (take (i + 1) ps)))
  text_next here =
      omega (arith, ap (λ (rs : List Record). length (spelled rs)) records_more, ap length (spelled-more (map record_of (take i ps)) p.rec), length-append (spelled (map record_of (take i ps))) (spelling p.rec))

-- ---- what contracts see

pub view_of : (ss : List Slot) (bytes : List ℕ) (rs : List Record) → bytes ≡ spelled rs → AllByRecursion HasSpelling rs → at_slots ss (records_of bytes) ≡ at_slots ss rs
view_of ss bytes rs e each = ap (λ (l : List ℕ). at_slots ss (records_of l)) e ∙ ap (at_slots ss) (records_spelled rs each)

entries_are : (b : Inside) (v : SpellingsState) (h : IsSpellings b) → spellings_view b ≡ v → v.entries ≡ at_slots b.slots.items h.rs
entries_are b v h e = sym (ap (λ (x : SpellingsState). x.entries) e) ∙ view_of b.slots.items b.bytes.items h.rs h.text_is h.each

records_are : (b : Inside) (v : SpellingsState) (h : IsSpellings b) → spellings_view b ≡ v → map record_in v.entries ≡ h.rs
records_are b v h e = ap (map record_in) (entries_are b v h e) ∙ slots_records 0 b.slots.items h.rs h.slots_are

pub entry_count : (b : Inside) (v : SpellingsState) → IsSpellings b → spellings_view b ≡ v → length v.entries ≡ length b.slots.items
entry_count b v h e = ap length (entries_are b v h e) ∙ slots_count 0 b.slots.items h.rs h.slots_are

pub text_is : (b : Inside) (v : SpellingsState) → IsSpellings b → spellings_view b ≡ v → b.bytes.items ≡ spelled (map record_in v.entries)
text_is b v h e = h.text_is ∙ ap spelled (sym (records_are b v h e))

-- the record of an index, as its slot and the bytes tell of it
pub record Found (b : Inside) (v : SpellingsState) (i : ℕ) (s : Slot) : Type 0 where
  pub rec : Record
  pub behind : List ℕ
  pub entry : slice_get v.entries i ≡ Some (s.place, rec)
  pub lsn : s.lsn ≡ (flat rec).lsn
  pub fits : HasSpelling rec
  pub within : s.at ≤ length b.bytes.items
  pub stands : drop s.at b.bytes.items ≡ spelling rec ++ behind
  pub rest : drop s.at b.bytes.items ≡ spelled (map record_in (drop i v.entries))

pub found : (b : Inside) (v : SpellingsState) (i : ℕ) (s : Slot) → IsSpellings b → spellings_view b ≡ v → slice_get b.slots.items i ≡ Some s → Found b v i s
found b v i s h e there =
    let t = tells 0 i b.slots.items h.rs s h.slots_are there in
    let start : s.at ≡ length (spelled (take i h.rs)) = omega (arith, t.start) in
    let behind : drop s.at b.bytes.items ≡ spelled (drop i h.rs) = ap (λ n. drop n b.bytes.items) start ∙ ap (drop (length (spelled (take i h.rs)))) h.text_is ∙ spelled_behind i h.rs in
    let one = subst (AllByRecursion HasSpelling) t.is (each_behind HasSpelling i h.rs h.each) in
    record {
      rec = t.rec;
      behind = spelled t.rest;
      entry = ap (λ (l : Records). slice_get l i) (entries_are b v h e) ∙ t.entry;
      lsn = t.lsn;
      fits = one.0;
      within = omega (arith, start, ap length h.text_is, ap length (spelled_parts i h.rs), length-append (spelled (take i h.rs)) (spelled (drop i h.rs)));
      stands = behind ∙ ap spelled t.is;
      rest = behind ∙ ap spelled (sym (ap (drop i) (records_are b v h e)) ∙ drop-map record_in i v.entries);
    }

-- the slot that is read at an index
pub slot_at : (b : Inside) (i count : ℕ) (s : Slot) → i < count → count ≡ vec_len b.slots → s ≡ get_or b.slots.items i s → slice_get b.slots.items i ≡ Some s
slot_at b i count s within all is =
    let inside : i < length b.slots.items = omega (arith, b.slots.ok.0) in
    slice_get-get_or b.slots.items i s inside ∙ ap Some (sym is)

pub found_at : (b : Inside) (v : SpellingsState) (i : ℕ) (s : Slot) → IsSpellings b → spellings_view b ≡ v → i < length v.entries → s ≡ get_or b.slots.items i s → Found b v i s
found_at b v i s h e within is = found b v i s h e (slot_at b i (length b.slots.items) s (omega (arith, entry_count b v h e)) (sym b.slots.ok.0) is)

-- the bytes from an index on
pub rest_from : (b : Inside) (v : SpellingsState) (ss : List Slot) (i n all : ℕ) → IsSpellings b → spellings_view b ≡ v → ss ≡ b.slots.items → all ≡ vec_len b.bytes
    → ((s : Slot) → slice_get ss i ≡ Some s → n ≡ s.at) → (length ss ≤ i → n ≡ all)
    → (n ≤ length b.bytes.items) × (drop n b.bytes.items ≡ spelled (map record_in (drop i v.entries)))
rest_from b v ss i n all h e same len slot end =
    elim ((slice_get_cases b.slots.items i).1) [
      | inl x ↦
          let f = found b v i x.0 h e x.2 in
          let at : n ≡ x.0.at = slot x.0 (ap (λ (l : List Slot). slice_get l i) same ∙ x.2) in
          let within : x.0.at ≤ length b.bytes.items = f.within in
          (omega arith, ap (λ m. drop m b.bytes.items) at ∙ f.rest)
      | inr x ↦
          let at : n ≡ length b.bytes.items = end (omega (arith, x.0, ap length same)) ∙ len ∙ b.bytes.ok.0 in
          let past : length v.entries ≤ i = omega (arith, x.0, entry_count b v h e) in
          (omega arith, drop_all n b.bytes.items (omega arith) ∙ sym (ap (λ (l : Records). spelled (map record_in l)) (drop_all i v.entries past)))
    ]

pub slot_within : (b : Inside) (v : SpellingsState) (i : ℕ) → IsSpellings b → spellings_view b ≡ v → i < length v.entries → i < vec_len b.slots
slot_within b v i h e within = omega (arith, b.slots.ok.0, entry_count b v h e)

pub entry_found : (b : Inside) (v : SpellingsState) (i : ℕ) (s : Slot) (f : Found b v i s) (x : ℕ × Record) → slice_get v.entries i ≡ Some x → f.rec ≡ x.1
entry_found b v i s f x there =
    let same : ◌≡◌ {A = Option (ℕ × Record)} (Some (s.place, f.rec)) (Some x) = sym f.entry ∙ there in
    let pair : (s.place, f.rec) ≡ x = cc in
    ap (λ (p : ℕ × Record). p.1) pair

-- what a read answers where it doesn't refuse
pub read_is : (place : ℕ) (r q : Record) (m n : ℕ) (answer : Result (Record × ℕ) Refusal) → (answer ≡ Ok (r, m)) ⊎ (answer ≡ Err R.Memory) → answer ≡ Ok (q, n) → ◌≡◌ {A = Option (ℕ × Record)} (Some (place, r)) (Some (place, q))
read_is place r q m n answer (inl is) e = let same : (r, m) ≡ (q, n) = cc in ap (λ (x : Record × ℕ). Some (place, x.0)) same
read_is place r q m n answer (inr is) e = absurd (cc)

-- ---- a record more, and only the first ones

pub pushed : (b : Inside) (bytes : Vec ℕ) (slots : Vec Slot) (s : Slot) (r : Record) → IsSpellings b → HasSpelling r → s.at ≡ length b.bytes.items → s.lsn ≡ (flat r).lsn
    → bytes.items ≡ b.bytes.items ++ spelling r → slots.items ≡ b.slots.items ++ s ∷ [] → IsSpellings (record { bytes = bytes; slots = slots })
pushed b bytes slots s r h fits at lsn text more =
    let place : s.at ≡ 0 + length (spelled h.rs) = omega (arith, at, ap length h.text_is) in
    record {
      rs = h.rs ++ r ∷ [];
      text_is = text ∙ ap (λ (l : List ℕ). l ++ spelling r) h.text_is ∙ sym (spelled-more h.rs r);
      each = all-more HasSpelling h.rs r h.each fits;
      slots_are = subst (λ (l : List Slot). AreSlots 0 l (h.rs ++ r ∷ [])) (sym more) (slots_more 0 b.slots.items h.rs s r h.slots_are place lsn);
    }

pub pushed_entries : (b : Inside) (v : SpellingsState) (bytes : Vec ℕ) (slots : Vec Slot) (s : Slot) (r : Record) → IsSpellings b → spellings_view b ≡ v → HasSpelling r
    → bytes.items ≡ b.bytes.items ++ spelling r → slots.items ≡ b.slots.items ++ s ∷ [] → at_slots slots.items (records_of bytes.items) ≡ v.entries ++ (s.place, r) ∷ []
pushed_entries b v bytes slots s r h e fits text more =
    view_of slots.items bytes.items (h.rs ++ r ∷ []) (text ∙ ap (λ (l : List ℕ). l ++ spelling r) h.text_is ∙ sym (spelled-more h.rs r)) (all-more HasSpelling h.rs r h.each fits)
    ∙ ap (λ (l : List Slot). at_slots l (h.rs ++ r ∷ [])) more ∙ entries_more 0 b.slots.items h.rs s r h.slots_are
    ∙ ap (λ (l : Records). l ++ (s.place, r) ∷ []) (sym (entries_are b v h e))

cut_text : (b : Inside) (bytes : List ℕ) (s : Slot) (i : ℕ) (h : IsSpellings b) → slice_get b.slots.items i ≡ Some s → bytes ≡ take s.at b.bytes.items → bytes ≡ spelled (take i h.rs)
cut_text b bytes s i h there text =
    let t = tells 0 i b.slots.items h.rs s h.slots_are there in
    let start : s.at ≡ length (spelled (take i h.rs)) = omega (arith, t.start) in
    text ∙ ap (λ n. take n b.bytes.items) start ∙ ap (take (length (spelled (take i h.rs)))) h.text_is ∙ spelled_front i h.rs

pub cut : (b : Inside) (bytes : Vec ℕ) (slots : Vec Slot) (s : Slot) (i : ℕ) → IsSpellings b → slice_get b.slots.items i ≡ Some s → bytes.items ≡ take s.at b.bytes.items
    → slots.items ≡ take i b.slots.items → IsSpellings (record { bytes = bytes; slots = slots })
cut b bytes slots s i h there text fewer = record {
  rs = take i h.rs;
  text_is = cut_text b bytes.items s i h there text;
  each = each_front HasSpelling i h.rs h.each;
  slots_are = subst (λ (l : List Slot). AreSlots 0 l (take i h.rs)) (sym fewer) (slots_front 0 i b.slots.items h.rs h.slots_are);
}

pub same_entries : (b : Inside) (v : SpellingsState) (i : ℕ) → IsSpellings b → spellings_view b ≡ v → vec_len b.slots ≤ i → v.entries ≡ take i v.entries
same_entries b v i h e past = sym (take_all i v.entries (omega (arith, b.slots.ok.0, entry_count b v h e)))

pub cut_entries : (b : Inside) (v : SpellingsState) (bytes : Vec ℕ) (slots : Vec Slot) (s : Slot) (i : ℕ) → IsSpellings b → spellings_view b ≡ v → slice_get b.slots.items i ≡ Some s
    → bytes.items ≡ take s.at b.bytes.items → slots.items ≡ take i b.slots.items → at_slots slots.items (records_of bytes.items) ≡ take i v.entries
cut_entries b v bytes slots s i h e there text fewer =
    view_of slots.items bytes.items (take i h.rs) (cut_text b bytes.items s i h there text) (each_front HasSpelling i h.rs h.each)
    ∙ ap (λ (l : List Slot). at_slots l (take i h.rs)) fewer ∙ entries_front i b.slots.items h.rs ∙ ap (take i) (sym (entries_are b v h e))

-- ---- without the first ones

slots_behind : (at i : ℕ) (ss : List Slot) (rs : List Record) → AreSlots at ss rs → AreSlots (at + length (spelled (take i rs))) (drop i ss) (drop i rs)
slots_behind at zero ss rs are = let none : at ≡ at + 0 = omega arith in subst (λ n. AreSlots n ss rs) none are
slots_behind at (suc i) [] [] are = tt
slots_behind at (suc i) [] (r ∷ rs) are = absurd are
slots_behind at (suc i) (s ∷ ss) [] are = absurd are
slots_behind at (suc i) (s ∷ ss) (r ∷ rs) are =
    let place : at + length (spelling r) + length (spelled (take i rs)) ≡ at + length (spelled (take (suc i) (r ∷ rs))) =
    omega (arith, length-append (spelling r) (spelled (take i rs))) in
    subst (λ n. AreSlots n (drop i ss) (drop i rs)) place (slots_behind (at + length (spelling r)) i ss rs are.2)

slots_lower : (at gone n : ℕ) (ss : List Slot) (rs : List Record) → n ≡ at + gone → AreSlots n ss rs → AreSlots at (map (lowered gone) ss) rs
slots_lower at gone n [] [] e are = tt
slots_lower at gone n [] (r ∷ rs) e are = absurd are
slots_lower at gone n (s ∷ ss) [] e are = absurd are
slots_lower at gone n (s ∷ ss) (r ∷ rs) e are =
    let here : s.at ≡ n = are.0 in
    let place : s.at - gone ≡ at = omega arith in
    (place, are.1, slots_lower (at + length (spelling r)) gone (n + length (spelling r)) ss rs (omega arith) are.2)

entries_behind : (gone i : ℕ) (ss : List Slot) (rs : List Record) → at_slots (map (lowered gone) (drop i ss)) (drop i rs) ≡ drop i (at_slots ss rs)
entries_behind gone zero [] rs = refl
entries_behind gone zero (s ∷ ss) [] = refl
entries_behind gone zero (s ∷ ss) (r ∷ rs) = ap (λ (l : Records). (s.place, r) ∷ l) (entries_behind gone zero ss rs)
entries_behind gone (suc i) [] rs = none (drop (suc i) rs)
  where
    none : (xs : List Record) → at_slots [] xs ≡ []
    none xs = refl
entries_behind gone (suc i) (s ∷ ss) [] = empty (map (lowered gone) (drop i ss))
  where
    empty : (xs : List Slot) → at_slots xs [] ≡ []
    empty [] = refl
    empty (x ∷ xs) = refl
entries_behind gone (suc i) (s ∷ ss) (r ∷ rs) = entries_behind gone i ss rs

-- the bytes in front of an index are those of the records in front of it
pub start_is : (b : Inside) (h : IsSpellings b) (i n : ℕ) (ss : List Slot) (all : ℕ) → ss ≡ b.slots.items → all ≡ vec_len b.bytes
    → ((s : Slot) → slice_get ss i ≡ Some s → n ≡ s.at) → (length ss ≤ i → n ≡ all) → n ≡ length (spelled (take i h.rs))
start_is b h i n ss all same len slot end =
    elim ((slice_get_cases b.slots.items i).1) [
      | inl x ↦
          let t = tells 0 i b.slots.items h.rs x.0 h.slots_are x.2 in
          let at : n ≡ x.0.at = slot x.0 (ap (λ (l : List Slot). slice_get l i) same ∙ x.2) in
          omega (arith, t.start, at)
      | inr x ↦
          let at : n ≡ length b.bytes.items = end (omega (arith, x.0, ap length same)) ∙ len ∙ b.bytes.ok.0 in
          let few : length h.rs ≤ i =
          omega (arith, x.0, slots_count 0 b.slots.items h.rs h.slots_are, ap length (slots_records 0 b.slots.items h.rs h.slots_are), length-map (at_slots b.slots.items h.rs) record_in) in
          at ∙ ap length h.text_is ∙ ap (λ (l : List Record). length (spelled l)) (sym (take_all i h.rs few))
    ]

-- what is left of the parts
pub record Forgets (b : Inside) (i n : ℕ) (bytes : Vec ℕ) (slots : Vec Slot) : Type 0 where
  pub text : bytes.items ≡ drop n b.bytes.items
  pub fewer : slots.items ≡ map (lowered n) (drop i b.slots.items)

pub forgot_text : (b : Inside) (h : IsSpellings b) (i n : ℕ) (bytes : Vec ℕ) (slots : Vec Slot) → n ≡ length (spelled (take i h.rs)) → Forgets b i n bytes slots
    → bytes.items ≡ spelled (drop i h.rs)
forgot_text b h i n bytes slots start f =
    f.text ∙ ap (λ m. drop m b.bytes.items) start ∙ ap (drop (length (spelled (take i h.rs)))) h.text_is ∙ spelled_behind i h.rs

pub forgot : (b : Inside) (h : IsSpellings b) (i n : ℕ) (bytes : Vec ℕ) (slots : Vec Slot) → n ≡ length (spelled (take i h.rs)) → Forgets b i n bytes slots
    → IsSpellings (record { bytes = bytes; slots = slots })
forgot b h i n bytes slots start f = record {
  rs = drop i h.rs;
  text_is = forgot_text b h i n bytes slots start f;
  each = each_behind HasSpelling i h.rs h.each;
  slots_are = subst (λ (l : List Slot). AreSlots 0 l (drop i h.rs)) (sym f.fewer)
      (slots_lower 0 n (0 + length (spelled (take i h.rs))) (drop i b.slots.items) (drop i h.rs) (omega arith) (slots_behind 0 i b.slots.items h.rs h.slots_are));
}

pub forgot_entries : (b : Inside) (v : SpellingsState) (h : IsSpellings b) (i n : ℕ) (bytes : Vec ℕ) (slots : Vec Slot) → spellings_view b ≡ v
    → n ≡ length (spelled (take i h.rs)) → Forgets b i n bytes slots → at_slots slots.items (records_of bytes.items) ≡ drop i v.entries
forgot_entries b v h i n bytes slots e start f =
    view_of slots.items bytes.items (drop i h.rs) (forgot_text b h i n bytes slots start f) (each_behind HasSpelling i h.rs h.each)
    ∙ ap (λ (l : List Slot). at_slots l (drop i h.rs)) f.fewer ∙ entries_behind n i b.slots.items h.rs ∙ ap (drop i) (sym (entries_are b v h e))
