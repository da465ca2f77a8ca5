-- Which words have no form. It serves the goals of form.rt, inst_forms.rt and verb_forms.rt.
use Rattle.std.proofs.Common.{◌≡◌, ◌≢◌, ⊎_elim, ℕ, ℤ, true, false, ◌<◌, ◌≤◌, ◌^◌, List, [], ◌∷◌, length, Option, None, Some, sym, ap, ◌∙◌, subst, arith}
use Rattle.std.specs.Prelude.{codes}
use Rattle.std.specs.Cmp.Lexicographic.{bytes_decides}
use Rattle.std.specs.Fmt.{decimal, signed_decimal}
use Rattle.std.specs.Str.{bytes_eq}
use Rattle.sd_base.specs.declared.ids.Rid.{Rid}
use Rattle.sd_base.specs.declared.place.Mode.{Mode}
use Rattle.sd_script.specs.declared.line.Form.{Form}
use Rattle.sd_script.specs.declared.line.Form.TheVariants.{Complex, Begin, Read, Write, Add, Insert, Delete, Save, Back, Rollback, Commit, Ask, Give, Take, Evict, Flush, Force, CheckBegin, CheckEnd, Fail, Fuse, Fault, FailAll, Recover, Join, Reopen, RecoverAll, JoinAll, Where, Table}
use Rattle.sd_base.specs.declared.trouble.Pick.{Pick}
use Rattle.sd_script.specs.Forms.{form_words, rid_word, mode_word, pick_word, number_words, AreSteps, IsForm, IsKnownBy, IsName, IsValue, IsRid, IsAmount, IsCount, IsInst, IsNoInst, HasRoom}
use Rattle.sd_script.proofs.Shapes.{verb_in, inst_led, begin_is, ask_is, give_is, take_is, evict_is, flush_is, check_is, complex_is, read_is, delete_is, write_is, add_is, insert_is, save_is, back_is, rollback_is, commit_is, fail_is, fuse_is, fault_is, fail_all_is, recover_is, join_is, recovery_is, where_is}

-- what a comparison of words tells
pub is_word : (word bytes due : List ℕ) → bytes ≡ due → true ≡ bytes_eq word bytes → word ≡ due
is_word word bytes due is e = (bytes_decides word due).0 (ap (bytes_eq word) (sym is) ∙ sym e)

pub isnt_word : (word bytes due : List ℕ) → bytes ≡ due → false ≡ bytes_eq word bytes → word ≡ due → ⊥
isnt_word word bytes due is e same = let clash : false ≡ true = e ∙ ap (bytes_eq word) is
    ∙ (bytes_decides word due).1 same in absurd (cc)

-- an instance's line of one word, and of five or more
pub inst_alone : (known : List ℕ → Option ℕ) (i : ℕ) → IsInst i → (form : Form) → IsForm form → IsKnownBy known form
    → form_words form ≡ decimal i ∷ [] → ⊥
inst_alone known i at form is knows e = led form (inst_led form i [] at e) e where
  led : (f : Form) → verb_in f ≡ [] → form_words f ≡ decimal i ∷ [] → ⊥
  led Table verb e = absurd (cc)
  led Reopen verb e = absurd (cc)
  led _ verb e = absurd (cc)

pub inst_long : (known : List ℕ → Option ℕ) (i : ℕ) (a b c d : List ℕ) (more : List (List ℕ)) → IsInst i → (form : Form)
    → IsForm form → IsKnownBy known form → form_words form ≡ decimal i ∷ a ∷ b ∷ c ∷ d ∷ more → ⊥
inst_long known i a b c d more at form is knows e = led form (inst_led form i (a ∷ b ∷ c ∷ d ∷ more) at e) e where
  led : (f : Form) → verb_in f ≡ [] → form_words f ≡ decimal i ∷ a ∷ b ∷ c ∷ d ∷ more → ⊥
  led Table verb e = absurd (cc)
  led Reopen verb e = absurd (cc)
  led _ verb e = absurd (cc)

-- an instance's line of two words, of three, and of four
pub no_force : (known : List ℕ → Option ℕ) (i : ℕ) (verb : List ℕ) → IsInst i → verb ≢ codes "force" → (form : Form)
    → IsForm form → IsKnownBy known form → form_words form ≡ decimal i ∷ verb ∷ [] → ⊥
no_force known i verb at force form is knows e = led form (inst_led form i (verb ∷ []) at e) e where
  led : (f : Form) → verb_in f ≡ [] → form_words f ≡ decimal i ∷ verb ∷ [] → ⊥
  led (Force j) first e = force (cc)
  led _ first e = absurd (cc)

pub no_three : (known : List ℕ → Option ℕ) (i : ℕ) (verb word : List ℕ) → IsInst i → verb ≢ codes "begin"
    → verb ≢ codes "give" → verb ≢ codes "take" → verb ≢ codes "evict" → verb ≢ codes "flush" → verb ≢ codes "check" → (form : Form)
    → IsForm form → IsKnownBy known form → form_words form ≡ decimal i ∷ verb ∷ word ∷ [] → ⊥
no_three known i verb word at begin give take evict flush check form is knows e = led form (inst_led form i (verb ∷ word ∷ []) at e) e where
  led : (f : Form) → verb_in f ≡ [] → form_words f ≡ decimal i ∷ verb ∷ word ∷ [] → ⊥
  led (Begin j name) first e = begin (cc)
  led (Give j page) first e = give (cc)
  led (Take j page) first e = take (cc)
  led (Evict j page) first e = evict (cc)
  led (Flush j page) first e = flush (cc)
  led (CheckBegin j) first e = check (cc)
  led (CheckEnd j) first e = check (cc)
  led _ first e = absurd (cc)

pub no_ask : (known : List ℕ → Option ℕ) (i : ℕ) (verb page mode : List ℕ) → IsInst i → verb ≢ codes "ask" → (form : Form)
    → IsForm form → IsKnownBy known form → form_words form ≡ decimal i ∷ verb ∷ page ∷ mode ∷ [] → ⊥
no_ask known i verb page mode at ask form is knows e = led form (inst_led form i (verb ∷ page ∷ mode ∷ []) at e) e where
  led : (f : Form) → verb_in f ≡ [] → form_words f ≡ decimal i ∷ verb ∷ page ∷ mode ∷ [] → ⊥
  led (Ask j p m) first e = ask (cc)
  led _ first e = absurd (cc)

-- a verb's line of one word, of two, three, four and five, and of six or more
pub no_lone : (known : List ℕ → Option ℕ) (verb : List ℕ) → verb ≢ codes "table" → verb ≢ codes "reopen" → (form : Form)
    → IsForm form → IsKnownBy known form → form_words form ≡ verb ∷ [] → ⊥
no_lone known verb table reopen Table is knows e = table (cc)
no_lone known verb table reopen Reopen is knows e = reopen (cc)
no_lone known verb table reopen _ is knows e = absurd (cc)

pub no_two : (known : List ℕ → Option ℕ) (verb word : List ℕ) → IsNoInst verb → verb ≢ codes "commit"
    → verb ≢ codes "rollback" → verb ≢ codes "where" → verb ≢ codes "fail" → verb ≢ codes "fuse" → verb ≢ codes "fault" → verb ≢ codes "recover"
    → verb ≢ codes "join" → (form : Form) → IsForm form
    → IsKnownBy known form → form_words form ≡ verb ∷ word ∷ [] → ⊥
no_two known verb word none commit rollback where_ fail fuse fault recover join (Commit name ordinal) is knows e = commit (cc)
no_two known verb word none commit rollback where_ fail fuse fault recover join (Rollback name ordinal) is knows e = rollback (cc)
no_two known verb word none commit rollback where_ fail fuse fault recover join (Where page) is knows e = where_ (cc)
no_two known verb word none commit rollback where_ fail fuse fault recover join (Fail i) is knows e = fail (cc)
no_two known verb word none commit rollback where_ fail fuse fault recover join (Fuse n) is knows e = fuse (cc)
no_two known verb word none commit rollback where_ fail fuse fault recover join (Fault n) is knows e = fault (cc)
no_two known verb word none commit rollback where_ fail fuse fault recover join RecoverAll is knows e = recover (cc)
no_two known verb word none commit rollback where_ fail fuse fault recover join JoinAll is knows e = join (cc)
no_two known verb word none commit rollback where_ fail fuse fault recover join (Join i) is knows e = join (cc)
no_two known verb word none commit rollback where_ fail fuse fault recover join (Force i) is knows e = none i is (cc)
no_two known verb word none commit rollback where_ fail fuse fault recover join _ is knows e = absurd (cc)

pub no_three_of : (known : List ℕ → Option ℕ) (verb second third : List ℕ) → IsNoInst verb → verb ≢ codes "read"
    → verb ≢ codes "delete" → verb ≢ codes "save" → verb ≢ codes "back" → verb ≢ codes "fail" → (form : Form) → IsForm form → IsKnownBy known form
    → form_words form ≡ verb ∷ second ∷ third ∷ [] → ⊥
no_three_of known verb second third none read delete save back fail (Read name ordinal rid) is knows e = read (cc)
no_three_of known verb second third none read delete save back fail (Delete name ordinal rid) is knows e = delete (cc)
no_three_of known verb second third none read delete save back fail (Save name ordinal mark) is knows e = save (cc)
no_three_of known verb second third none read delete save back fail (Back name ordinal mark) is knows e = back (cc)
no_three_of known verb second third none read delete save back fail (FailAll pick) is knows e = fail (cc)
no_three_of known verb second third none read delete save back fail (Begin i name) is knows e = none i is.0 (cc)
no_three_of known verb second third none read delete save back fail (Give i page) is knows e = none i is.0 (cc)
no_three_of known verb second third none read delete save back fail (Take i page) is knows e = none i is.0 (cc)
no_three_of known verb second third none read delete save back fail (Evict i page) is knows e = none i is.0 (cc)
no_three_of known verb second third none read delete save back fail (Flush i page) is knows e = none i is.0 (cc)
no_three_of known verb second third none read delete save back fail (CheckBegin i) is knows e = none i is (cc)
no_three_of known verb second third none read delete save back fail (CheckEnd i) is knows e = none i is (cc)
no_three_of known verb second third none read delete save back fail _ is knows e = absurd (cc)

pub no_four : (known : List ℕ → Option ℕ) (verb second third fourth : List ℕ) → IsNoInst verb → verb ≢ codes "insert"
    → verb ≢ codes "write" → verb ≢ codes "add" → verb ≢ codes "complex" → verb ≢ codes "recover" → (form : Form) → IsForm form
    → IsKnownBy known form
    → form_words form ≡ verb ∷ second ∷ third ∷ fourth ∷ [] → ⊥
no_four known verb second third fourth none insert write add complex recover (Recover i by most) is knows e = recover (cc)
no_four known verb second third fourth none insert write add complex recover
    (Insert name ordinal page value capacity) is knows e = insert (cc)
no_four known verb second third fourth none insert write add complex recover (Write name ordinal rid value) is knows e = write (cc)
no_four known verb second third fourth none insert write add complex recover (Add name ordinal rid by) is knows e = add (cc)
no_four known verb second third fourth none insert write add complex recover (Complex insts pages frames) is knows e = complex (cc)
no_four known verb second third fourth none insert write add complex recover (Ask i page mode) is knows e = none i is.0 (cc)
no_four known verb second third fourth none insert write add complex recover _ is knows e = absurd (cc)

pub no_five : (known : List ℕ → Option ℕ) (verb second third fourth fifth : List ℕ) → verb ≢ codes "insert" → verb ≢ codes "recover" → (form : Form)
    → IsForm form → IsKnownBy known form → form_words form ≡ verb ∷ second ∷ third ∷ fourth ∷ fifth ∷ [] → ⊥
no_five known verb second third fourth fifth insert recover (Insert name ordinal page value capacity) is knows e = insert (cc)
no_five known verb second third fourth fifth insert recover (Recover i by most) is knows e = recover (cc)
no_five known verb second third fourth fifth insert recover _ is knows e = absurd (cc)

pub no_six : (known : List ℕ → Option ℕ) (a b c d e f : List ℕ) (more : List (List ℕ)) → (form : Form) → IsForm form
    → IsKnownBy known form → form_words form ≡ a ∷ b ∷ c ∷ d ∷ e ∷ f ∷ more → ⊥
no_six known a b c d e f more (Insert name ordinal page value None) is knows same = absurd (cc)
no_six known a b c d e f more (Insert name ordinal page value (Some capacity)) is knows same = absurd (cc)
no_six known a b c d e f more (Recover i by None) is knows same = absurd (cc)
no_six known a b c d e f more (Recover i by (Some most)) is knows same = absurd (cc)
no_six known a b c d e f more _ is knows same = absurd (cc)

-- an instance's line whose parts are none
pub begin_none : (known : List ℕ → Option ℕ) (i : ℕ) (name : List ℕ) → IsInst i → ¬ IsName name → (form : Form) → IsForm form
    → IsKnownBy known form → form_words form ≡ decimal i ∷ codes "begin" ∷ name ∷ [] → ⊥
begin_none known i name at bad form is knows e = let parts = subst IsForm (begin_is form i name is at e) is in bad parts.1

pub ask_none : (known : List ℕ → Option ℕ) (i : ℕ) (page mode : List ℕ) → IsInst i → ((p : ℕ) (m : Mode) → p < 1024
    → decimal p ≡ page → mode_word m ≡ mode → ⊥) → (form : Form) → IsForm form → IsKnownBy known form
    → form_words form ≡ decimal i ∷ codes "ask" ∷ page ∷ mode ∷ [] → ⊥
ask_none known i page mode at bad form is knows e =
    let words = ask_is form i page mode is at e in
    let parts = subst IsForm words.2 is in
    bad words.0 words.1 parts.1 words.3 words.4

pub give_none : (known : List ℕ → Option ℕ) (i : ℕ) (page : List ℕ) → IsInst i → ((p : ℕ) → p < 1024 → decimal p ≢ page)
    → (form : Form) → IsForm form → IsKnownBy known form → form_words form ≡ decimal i ∷ codes "give" ∷ page ∷ [] → ⊥
give_none known i page at bad form is knows e =
    let words = give_is form i page is at e in
    let parts = subst IsForm words.1 is in
    bad words.0 parts.1 words.2

pub take_none : (known : List ℕ → Option ℕ) (i : ℕ) (page : List ℕ) → IsInst i → ((p : ℕ) → p < 1024 → decimal p ≢ page)
    → (form : Form) → IsForm form → IsKnownBy known form → form_words form ≡ decimal i ∷ codes "take" ∷ page ∷ [] → ⊥
take_none known i page at bad form is knows e =
    let words = take_is form i page is at e in
    let parts = subst IsForm words.1 is in
    bad words.0 parts.1 words.2

pub evict_none : (known : List ℕ → Option ℕ) (i : ℕ) (page : List ℕ) → IsInst i → ((p : ℕ) → p < 1024 → decimal p ≢ page)
    → (form : Form) → IsForm form → IsKnownBy known form → form_words form ≡ decimal i ∷ codes "evict" ∷ page ∷ [] → ⊥
evict_none known i page at bad form is knows e =
    let words = evict_is form i page is at e in
    let parts = subst IsForm words.1 is in
    bad words.0 parts.1 words.2

pub flush_none : (known : List ℕ → Option ℕ) (i : ℕ) (page : List ℕ) → IsInst i → ((p : ℕ) → p < 1024 → decimal p ≢ page)
    → (form : Form) → IsForm form → IsKnownBy known form → form_words form ≡ decimal i ∷ codes "flush" ∷ page ∷ [] → ⊥
flush_none known i page at bad form is knows e =
    let words = flush_is form i page is at e in
    let parts = subst IsForm words.1 is in
    bad words.0 parts.1 words.2

pub check_none : (known : List ℕ → Option ℕ) (i : ℕ) (word : List ℕ) → IsInst i → word ≢ codes "begin" → word ≢ codes "end"
    → (form : Form) → IsForm form → IsKnownBy known form → form_words form ≡ decimal i ∷ codes "check" ∷ word ∷ [] → ⊥
check_none known i word at begins ends form is knows e =
    ⊎_elim (λ first. begins (sym first.1)) (λ last. ends (sym last.1)) (check_is form i word is at e)

-- a verb's line whose parts are none
pub complex_none : (known : List ℕ → Option ℕ) (insts pages frames : List ℕ) → ((i p f : ℕ) → IsInst i → IsCount p → IsCount f
    → decimal i ≡ insts → decimal p ≡ pages → decimal f ≡ frames → ⊥) → (form : Form) → IsForm form → IsKnownBy known form
    → form_words form ≡ codes "complex" ∷ insts ∷ pages ∷ frames ∷ [] → ⊥
complex_none known insts pages frames bad form is knows e =
    let words = complex_is form insts pages frames is e in
    let parts = subst IsForm words.3 is in
    bad words.0 words.1 words.2 parts.0 parts.1 parts.2 words.4 words.5 words.6

-- no such record, or no such name
abbrev pub NoRecord : (List ℕ → Option ℕ) → List ℕ → List ℕ → Type 0
NoRecord known name rid = (o : ℕ) (r : Rid) → IsName name → IsRid r → known name ≡ Some o → rid_word r ≢ rid

pub read_none : (known : List ℕ → Option ℕ) (name rid : List ℕ) → NoRecord known name rid → (form : Form) → IsForm form
    → IsKnownBy known form → form_words form ≡ codes "read" ∷ name ∷ rid ∷ [] → ⊥
read_none known name rid bad form is knows e =
    let words = read_is form name rid is e in
    let parts = subst IsForm words.2 is in
    let known_is = subst (IsKnownBy known) words.2 knows in
    bad words.0 words.1 parts.0 parts.1 known_is words.3

pub delete_none : (known : List ℕ → Option ℕ) (name rid : List ℕ) → NoRecord known name rid → (form : Form) → IsForm form
    → IsKnownBy known form → form_words form ≡ codes "delete" ∷ name ∷ rid ∷ [] → ⊥
delete_none known name rid bad form is knows e =
    let words = delete_is form name rid is e in
    let parts = subst IsForm words.2 is in
    let known_is = subst (IsKnownBy known) words.2 knows in
    bad words.0 words.1 parts.0 parts.1 known_is words.3

pub write_none : (known : List ℕ → Option ℕ) (name rid value : List ℕ) → (IsValue value → NoRecord known name rid)
    → (form : Form) → IsForm form → IsKnownBy known form → form_words form ≡ codes "write" ∷ name ∷ rid ∷ value ∷ [] → ⊥
write_none known name rid value bad form is knows e =
    let words = write_is form name rid value is e in
    let parts = subst IsForm words.2 is in
    let known_is = subst (IsKnownBy known) words.2 knows in
    bad parts.2 words.0 words.1 parts.0 parts.1 known_is words.3

pub add_none : (known : List ℕ → Option ℕ) (name rid by : List ℕ) → ((z : ℤ) → IsAmount z → signed_decimal z ≡ by
    → NoRecord known name rid) → (form : Form) → IsForm form → IsKnownBy known form
    → form_words form ≡ codes "add" ∷ name ∷ rid ∷ by ∷ [] → ⊥
add_none known name rid by bad form is knows e =
    let words = add_is form name rid by is e in
    let parts = subst IsForm words.3 is in
    let known_is = subst (IsKnownBy known) words.3 knows in
    bad words.2 parts.2 words.5 words.0 words.1 parts.0 parts.1 known_is words.4

pub insert_none : (known : List ℕ → Option ℕ) (name page value : List ℕ) (more : List (List ℕ))
    → ((o p : ℕ) (c : Option ℕ) → IsName name → p < 1024 → IsValue value → HasRoom value c → known name ≡ Some o
    → decimal p ≡ page → number_words c ≡ more → ⊥)
    → (form : Form) → IsForm form → IsKnownBy known form → form_words form ≡ codes "insert" ∷ name ∷ page ∷ value ∷ more → ⊥
insert_none known name page value more bad form is knows e =
    let words = insert_is form name page value more is e in
    let parts = subst IsForm words.3 is in
    let known_is = subst (IsKnownBy known) words.3 knows in
    bad words.0 words.1 words.2 parts.0 parts.1 parts.2 parts.3 known_is words.4 words.5

pub no_room : (value word : List ℕ) → ((c : ℕ) → length value ≤ c → c ≤ 65535 → decimal c ≢ word) → (c : Option ℕ)
    → HasRoom value c → number_words c ≡ word ∷ [] → ⊥
no_room value word bad None room e = absurd (cc)
no_room value word bad (Some c) room e = bad c room.0 room.1 (cc)

pub save_none : (known : List ℕ → Option ℕ) (name mark : List ℕ) → (IsName mark → (o : ℕ) → IsName name → known name ≢ Some o)
    → (form : Form) → IsForm form → IsKnownBy known form → form_words form ≡ codes "save" ∷ name ∷ mark ∷ [] → ⊥
save_none known name mark bad form is knows e =
    let words = save_is form name mark is e in
    let parts = subst IsForm words.1 is in
    let known_is = subst (IsKnownBy known) words.1 knows in
    bad parts.1 words.0 parts.0 known_is

pub back_none : (known : List ℕ → Option ℕ) (name mark : List ℕ) → (IsName mark → (o : ℕ) → IsName name → known name ≢ Some o)
    → (form : Form) → IsForm form → IsKnownBy known form → form_words form ≡ codes "back" ∷ name ∷ mark ∷ [] → ⊥
back_none known name mark bad form is knows e =
    let words = back_is form name mark is e in
    let parts = subst IsForm words.1 is in
    let known_is = subst (IsKnownBy known) words.1 knows in
    bad parts.1 words.0 parts.0 known_is

pub rollback_none : (known : List ℕ → Option ℕ) (name : List ℕ) → ((o : ℕ) → IsName name → known name ≢ Some o)
    → (form : Form) → IsForm form → IsKnownBy known form → form_words form ≡ codes "rollback" ∷ name ∷ [] → ⊥
rollback_none known name bad form is knows e =
    let words = rollback_is form name is e in
    let parts = subst IsForm words.1 is in
    let known_is = subst (IsKnownBy known) words.1 knows in
    bad words.0 parts known_is

pub commit_none : (known : List ℕ → Option ℕ) (name : List ℕ) → ((o : ℕ) → IsName name → known name ≢ Some o) → (form : Form)
    → IsForm form → IsKnownBy known form → form_words form ≡ codes "commit" ∷ name ∷ [] → ⊥
commit_none known name bad form is knows e =
    let words = commit_is form name is e in
    let parts = subst IsForm words.1 is in
    let known_is = subst (IsKnownBy known) words.1 knows in
    bad words.0 parts known_is

pub fail_none : (known : List ℕ → Option ℕ) (inst : List ℕ) → IsNoInst inst → (form : Form) → IsForm form
    → IsKnownBy known form → form_words form ≡ codes "fail" ∷ inst ∷ [] → ⊥
fail_none known inst bad form is knows e =
    let words = fail_is form inst is e in
    let parts = subst IsForm words.1 is in
    bad words.0 parts words.2

pub fuse_none : (known : List ℕ → Option ℕ) (calls : List ℕ) → ((n : ℕ) → 0 ≤ n → n ≤ 1000000 → decimal n ≢ calls) → (form : Form)
    → IsForm form → IsKnownBy known form → form_words form ≡ codes "fuse" ∷ calls ∷ [] → ⊥
fuse_none known calls bad form is knows e =
    let words = fuse_is form calls is e in
    let parts = subst IsForm words.1 is in
    bad words.0 (omega arith) parts words.2

pub fault_none : (known : List ℕ → Option ℕ) (call : List ℕ) → ((n : ℕ) → 1 ≤ n → n ≤ 1000000 → decimal n ≢ call) → (form : Form)
    → IsForm form → IsKnownBy known form → form_words form ≡ codes "fault" ∷ call ∷ [] → ⊥
fault_none known call bad form is knows e =
    let words = fault_is form call is e in
    let parts = subst IsForm words.1 is in
    bad words.0 parts.0 parts.1 words.2

pub fail_all_none : (known : List ℕ → Option ℕ) (all pick : List ℕ) → ((p : Pick) → codes "all" ≡ all → pick_word p ≡ pick → ⊥)
    → (form : Form) → IsForm form → IsKnownBy known form → form_words form ≡ codes "fail" ∷ all ∷ pick ∷ [] → ⊥
fail_all_none known all pick bad form is knows e =
    let words = fail_all_is form all pick is e in
    bad words.0 words.2 words.3

pub recover_none : (known : List ℕ → Option ℕ) (all : List ℕ) → (all ≡ codes "all" → ⊥) → (form : Form) → IsForm form
    → IsKnownBy known form → form_words form ≡ codes "recover" ∷ all ∷ [] → ⊥
recover_none known all bad form is knows e = bad (sym (recover_is form all is e).1)

pub join_none : (known : List ℕ → Option ℕ) (word : List ℕ) → (word ≡ codes "all" → ⊥) → IsNoInst word → (form : Form)
    → IsForm form → IsKnownBy known form → form_words form ≡ codes "join" ∷ word ∷ [] → ⊥
join_none known word bad none form is knows e = ⊎_elim (λ every. bad (sym every.1)) (λ one. none one.0 (subst IsForm one.1 is) one.2)
    (join_is form word is e)

pub recovery_none : (known : List ℕ → Option ℕ) (inst between by : List ℕ) (more : List (List ℕ))
    → ((i j : ℕ) (k : Option ℕ) → IsInst i → IsInst j → AreSteps k → decimal i ≡ inst → codes "by" ≡ between → decimal j ≡ by
    → number_words k ≡ more → ⊥)
    → (form : Form) → IsForm form → IsKnownBy known form → form_words form ≡ codes "recover" ∷ inst ∷ between ∷ by ∷ more → ⊥
recovery_none known inst between by more bad form is knows e =
    let words = recovery_is form inst between by more is e in
    let parts = subst IsForm words.3 is in
    bad words.0 words.1 words.2 parts.0 parts.1 parts.2 words.4 words.5 words.6 words.7

pub no_steps : (word : List ℕ) → ((k : ℕ) → 1 ≤ k → k < 10 ^ 10 → decimal k ≢ word) → (most : Option ℕ) → AreSteps most
    → number_words most ≡ word ∷ [] → ⊥
no_steps word bad None are e = absurd (cc)
no_steps word bad (Some k) are e = bad k are.0 are.1 (cc)

pub where_none : (known : List ℕ → Option ℕ) (page : List ℕ) → ((p : ℕ) → p < 1024 → decimal p ≢ page) → (form : Form)
    → IsForm form → IsKnownBy known form → form_words form ≡ codes "where" ∷ page ∷ [] → ⊥
where_none known page bad form is knows e =
    let words = where_is form page is e in
    let parts = subst IsForm words.1 is in
    bad words.0 parts words.2
