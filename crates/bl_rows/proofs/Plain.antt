-- How csv reads a line without quotes and line ends: its fields lie between commas.
use Rattle.std.proofs.Common.{◌≡◌, ◌≢◌, ℕ, zero, suc, ◌+◌, ◌-◌, ◌<◌, ◌≤◌, List, [], ◌∷◌, ◌++◌, length, take, drop, get_or, refl, ap, sym, ◌∙◌, Some, Bool, true}
use Rattle.std.proofs.Common.{false, ◌==◌, ◌||◌, arith, add-one, drop-cons, length-drop, ◌⊎◌, inl, inr}
use Rattle.std.proofs.lemmas.Bool.Decides.{eqb_tells}
use Rattle.std.proofs.lemmas.List.{get_or-drop, drop_all}
use Rattle.std.proofs.Math.Seq.{take-suc}
use Rattle.csv.specs.Machine.{next_record}
use Rattle.csv.specs.Reading.{default_config, records_from, strip_bom}
use Rattle.csv.specs.declared.parser.State.{State}
use Rattle.csv.specs.declared.parser.State.TheVariants as st
use Rattle.bl_rows.specs.Fields.{records_in}
use Rattle.csv.specs.Records.{Row, fields_of, partial_of}
use Rattle.bl_rows.proofs.Csv.{records_by}
use Rattle.bl_rows.proofs.Cuts.{or_false}

-- the states of a line in which no quote was seen
abbrev pub IsPlain : State → Type 0
IsPlain st.StartRecord = Unit {0}
IsPlain st.StartField = Unit {0}
IsPlain st.InField = Unit {0}
IsPlain st.InQuoted = ⊥
IsPlain st.AfterQuote = ⊥
IsPlain st.InEscape = ⊥
IsPlain st.InComment = ⊥
IsPlain st.AfterCr = ⊥

-- those of a line that has begun
abbrev pub HasBegun : State → Type 0
HasBegun st.StartRecord = ⊥
HasBegun st.StartField = Unit {0}
HasBegun st.InField = Unit {0}
HasBegun st.InQuoted = ⊥
HasBegun st.AfterQuote = ⊥
HasBegun st.InEscape = ⊥
HasBegun st.InComment = ⊥
HasBegun st.AfterCr = ⊥

-- a comma ends a field
pub comma : (s : State) (fields : List (List ℕ)) (field rest : List ℕ) → IsPlain s
    → next_record default_config s fields field (44 ∷ rest) ≡ next_record default_config st.StartField (fields ++ field ∷ []) [] rest
unfolding next_record
comma st.StartRecord fields field rest h = refl
comma st.StartField fields field rest h = refl
comma st.InField fields field rest h = refl
comma st.InQuoted fields field rest h = absurd h
comma st.AfterQuote fields field rest h = absurd h
comma st.InEscape fields field rest h = absurd h
comma st.InComment fields field rest h = absurd h
comma st.AfterCr fields field rest h = absurd h

-- any other plain byte joins it
pub other : (s : State) (b : ℕ) (fields : List (List ℕ)) (field rest : List ℕ) → IsPlain s → (b == 34) ≡ false → (b == 13) ≡ false →
    (b == 10) ≡ false → (b == 44) ≡ false
    → next_record default_config s fields field (b ∷ rest) ≡ next_record default_config st.InField fields (field ++ b ∷ []) rest
unfolding next_record
other st.StartRecord b fields field rest h q r f c = rw (r, f, q, c) refl
other st.StartField b fields field rest h q r f c = rw (q, c, r, f) refl
other st.InField b fields field rest h q r f c = rw (c, r, f) refl
other st.InQuoted b fields field rest h q r f c = absurd h
other st.AfterQuote b fields field rest h q r f c = absurd h
other st.InEscape b fields field rest h q r f c = absurd h
other st.InComment b fields field rest h q r f c = absurd h
other st.AfterCr b fields field rest h q r f c = absurd h

-- the fields before `start`, and the bytes of the field at hand up to i
pub record Split (line : List ℕ) (start i : ℕ) (fields : List (List ℕ)) (held : List ℕ) : Type 0 where
  pub within : start ≤ i
  pub state : State
  pub plain : IsPlain state
  pub begun : 0 < i → HasBegun state
  pub none : held ≡ []
  pub same : next_record default_config state fields (take (i - start) (drop start line)) (drop i line) ≡ next_record default_config st.StartRecord [] [] line

pub split_start : (line : List ℕ) (fields : List (List ℕ)) (held : List ℕ) → fields ≡ [] → held ≡ [] → Split line 0 0 fields held
split_start line fields held e h = record {
  within = omega arith;
  state = st.StartRecord;
  plain = tt;
  begun =
      λ g. absurd (omega arith);
  none = h;
  same = rw e refl;
}

pub none_taken : (n : ℕ) (xs : List ℕ) → take (n - n) xs ≡ []
none_taken n xs = let e : n - n ≡ 0 = omega arith in rw e refl

pub split_comma : (line : List ℕ) (start i : ℕ) (fields fields2 : List (List ℕ)) (held held2 : List ℕ) →
    Split line start i fields held → i < length line → get_or line i 0 ≡ 44
    → fields2 ≡ fields ++ (held ++ take (i - start) (drop start line)) ∷ [] → held2 ≡ [] → Split line (i + 1) (i + 1) fields2 held2
split_comma line start i fields fields2 held held2 s inside byte pushed none = record {
  within = omega arith;
  state = st.StartField;
  plain = tt;
  begun = λ g. tt;
  none = none;
  same =
      let rest : drop i line ≡ 44 ∷ drop (i + 1) line = rw (add-one, drop-cons line i 0 inside, byte) refl in
      let field : fields2 ≡ fields ++ take (i - start) (drop start line) ∷ [] = pushed ∙ rw s.none refl in
      rw (field, none_taken (i + 1) (drop (i + 1) line)) (sym (comma s.state fields (take (i - start) (drop start line)) (drop (i + 1) line) s.plain)
      ∙ (ap (λ r. next_record default_config s.state fields (take (i - start) (drop start line)) r) (sym rest) ∙ s.same));
}

-- one byte more is in the field at hand
pub field_more : (line : List ℕ) (start i : ℕ) → start ≤ i → i < length line →
    take (i + 1 - start) (drop start line) ≡ take (i - start) (drop start line) ++ get_or line i 0 ∷ []
field_more line start i h g =
    let n : i + 1 - start ≡ suc (i - start) = omega arith in
    let place : start + (i - start) ≡ i = omega arith in
    let byte : get_or (drop start line) (i - start) 0 ≡ get_or line i 0 = get_or-drop start line (i - start) 0 ∙ ap (λ k. get_or line k 0) place in
    rw n (take-suc (drop start line) (i - start) 0 (omega (arith, length-drop start line)) ∙ rw byte refl)

split_other : (line : List ℕ) (start i : ℕ) (fields : List (List ℕ)) (held : List ℕ) → Split line start i fields held → i < length line
    → (get_or line i 0 == 34) ≡ false → (get_or line i 0 == 13) ≡ false → (get_or line i 0 == 10) ≡ false →
    (get_or line i 0 == 44) ≡ false → Split line start (i + 1) fields held
split_other line start i fields held s inside q r f c = record {
  within = omega (arith, s.within);
  state = st.InField;
  plain = tt;
  begun = λ g. tt;
  none = s.none;
  same =
      let rest : drop i line ≡ get_or line i 0 ∷ drop (i + 1) line = rw (add-one, drop-cons line i 0 inside) refl in
      rw (field_more line start i s.within inside) (sym (other s.state (get_or line i 0) fields (take (i - start) (drop start line))
      (drop (i + 1) line) s.plain q r f c)
      ∙ (ap (λ t. next_record default_config s.state fields (take (i - start) (drop start line)) t) (sym rest) ∙ s.same));
}

-- the end of a line ends its last field
pub at_end : (s : State) (fields : List (List ℕ)) (field : List ℕ) → HasBegun s →
    next_record default_config s fields field [] ≡ Some (fields ++ field ∷ [], st.StartRecord, [])
unfolding next_record
at_end st.StartRecord fields field h = absurd h
at_end st.StartField fields field h = refl
at_end st.InField fields field h = refl
at_end st.InQuoted fields field h = absurd h
at_end st.AfterQuote fields field h = absurd h
at_end st.InEscape fields field h = absurd h
at_end st.InComment fields field h = absurd h
at_end st.AfterCr fields field h = absurd h

no_more : (n : ℕ) → records_from default_config n st.StartRecord [] ≡ []
unfolding records_from next_record
no_more zero = refl
no_more (suc n) = refl

unmarked : (line : List ℕ) → (get_or line 0 0 == 239) ≡ false → strip_bom line ≡ line
unfolding strip_bom
unmarked [] h = refl
unmarked (a ∷ []) h = refl
unmarked (a ∷ b ∷ []) h = refl
unmarked (a ∷ b ∷ c ∷ rest) h = rw h refl

-- a line whose fields come to an end with it
pub line_read : (line : List ℕ) (fields : List (List ℕ)) → (get_or line 0 0 == 239) ≡ false
    → next_record default_config st.StartRecord [] [] line ≡ Some (fields, st.StartRecord, []) → records_in line ≡ fields ∷ []
unfolding records_in
line_read line fields mark read = rw (unmarked line mark) (records_by line ∙ rw (read, no_more (length line)) refl)

pub split_end : (line : List ℕ) (start i : ℕ) (fields fields2 : List (List ℕ)) (held : List ℕ) → Split line start i fields held →
    0 < length line → (get_or line 0 0 == 239) ≡ false → i ≡ length line
    → fields2 ≡ fields ++ (held ++ take (length line - start) (drop start line)) ∷ [] → records_in line ≡ fields2 ∷ []
split_end line start i fields fields2 held s some mark all pushed =
    let field : fields2 ≡ fields ++ take (i - start) (drop start line) ∷ [] = pushed ∙ rw (s.none, all) refl in
    let done : drop i line ≡ [] = drop_all i line (omega (arith, all)) in
    let read : next_record default_config st.StartRecord [] [] line ≡ Some (fields2, st.StartRecord, []) =
    sym s.same ∙ (ap (λ t. next_record default_config s.state fields (take (i - start) (drop start line)) t) done
    ∙ (at_end s.state fields (take (i - start) (drop start line)) (s.begun (omega (arith, all))) ∙ rw field refl)) in
    line_read line fields2 mark read

-- a line without bytes has no record
pub nothing_in : records_in [] ≡ []
unfolding records_in strip_bom records_from next_record
nothing_in = refl

pub empty_line : (line : List ℕ) → length line ≡ 0 → records_in line ≡ []
empty_line [] h = nothing_in
empty_line (b ∷ line) h = absurd (omega arith)

pub differs : (a b : ℕ) → (a ≡ b → ⊥) → (a == b) ≡ false
differs a b h = by_test (eqb_tells a b)
  where
    by_test : ((a == b) ≡ true × (a ≡ b)) ⊎ ((a == b) ≡ false × (a ≢ b)) → (a == b) ≡ false
    by_test (inl p) = absurd (h p.1)
    by_test (inr p) = p.0

-- the same under the names that a join gives
pub split_same : (line : List ℕ) (i start start2 : ℕ) (row row2 : Row) → start2 ≡ start → row2 ≡ row →
    Split line start i (fields_of row) (partial_of row) → Split line start2 i (fields_of row2) (partial_of row2)
split_same line i start start2 row row2 e g s = rw (e, g) s

-- a byte that is not special, and no comma
pub split_plain : (line : List ℕ) (start i : ℕ) (fields : List (List ℕ)) (held : List ℕ) (special : Bool) →
    Split line start i fields held → i < length line
    → special ≡ ((get_or line i 0 == 34) || ((get_or line i 0 == 13) || (get_or line i 0 == 10))) → special ≡ false →
    (get_or line i 0 == 44) ≡ false → Split line start (i + 1) fields held
split_plain line start i fields held special s inside e h c =
    let p = or_false (get_or line i 0 == 34) _ (sym e ∙ h) in
    let q = or_false (get_or line i 0 == 13) _ p.1 in
    split_other line start i fields held s inside p.0 q.0 q.1 c
