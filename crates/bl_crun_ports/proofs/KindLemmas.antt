-- The types of the cells of structs, one member after another.
use Rattle.std.proofs.Common.{◌≡◌, ℕ, zero, suc, ◌+◌, ◌<◌, Bool, true, false, List, [], ◌∷◌, ◌++◌, map, length, get_or, take, Option, Some, None}
use Rattle.std.proofs.Common.{refl, ap, sym, subst, ◌∙◌, arith, append-nil}
use Rattle.std.specs.Prelude.{flat_map, bytes_eq, nat_lt, option_map, unwrap_or, if◌then◌else◌}
use Rattle.std.specs.Option.{option_or}
use Rattle.std.proofs.lemmas.Grind.{common_steps}
use Rattle.std.proofs.lemmas.Slice.Eq.{bytes_eq-Decides}
use Rattle.std.proofs.lemmas.List.{append_assoc, map-append, take_all}
use Rattle.bl_tree.proofs.Basics.{same_some}
use Rattle.bl_tree.specs.declared.text.Text.{Text}
use Rattle.bl_tree.specs.declared.scalar.Scalar.{Scalar}
use Rattle.bl_tree.specs.declared.c.CMember.{CMember}
use Rattle.bl_tree.specs.declared.c.CStruct.{CStruct}
use Rattle.bl_ctext_semantics.specs.Memory.{Projection, member, element, Root}
use Rattle.bl_ctext_semantics.specs.Tables.{Table, found, no_entries, with_entry}
use Rattle.bl_ctext_semantics.specs.Cells.{Inner, below, seen_from_outside, inner_of_length, inner_of_type, inner_of_member, inner_after, cells_at}
use Rattle.bl_ctext_semantics.proofs.MapLemmas.{next_entry, nothing_after, same_table}
use Rattle.bl_crun_ports.specs.inner.Spans.{kinds_in, kinds_named, scalars_of, kinds_of_member, kinds_of_type, kinds_of_members, struct_position, if_below}
use Rattle.bl_crun_ports.specs.inner.Spans.{placed_before, repeated}

-- ---- members

kinds-inside : (parts : List Projection) (cells : List Inner) → kinds_in (map (seen_from_outside parts) cells) ≡ kinds_in cells
kinds-inside parts [] = refl
kinds-inside parts (cell ∷ cells) = ap (λ l. cell.kind ∷ l) (kinds-inside parts cells)

kinds-append : (xs ys : List Inner) → kinds_in (xs ++ ys) ≡ kinds_in xs ++ kinds_in ys
kinds-append xs ys = map-append (λ cell. cell.kind) xs ys

flat-append : {A B : Type 0} (f : A → List B) (xs ys : List A) → flat_map f (xs ++ ys) ≡ flat_map f xs ++ flat_map f ys
flat-append f [] ys = refl
flat-append f (x ∷ xs) ys = ap (λ l. f x ++ l) (flat-append f xs ys) ∙ sym (append_assoc (f x) (flat_map f xs) (flat_map f ys))

pub repeated-last : (n : ℕ) (xs : List Scalar) → repeated n xs ++ xs ≡ xs ++ repeated n xs
repeated-last zero xs = sym (append-nil xs)
repeated-last (suc n) xs = append_assoc xs (repeated n xs) xs ∙ ap (λ l. xs ++ l) (repeated-last n xs)

kinds-repeated : (name : Text) (cells : List Inner) (n : ℕ) →
    kinds_in (flat_map (λ k. map (seen_from_outside (member name ∷ element k ∷ [])) cells) (below n)) ≡ repeated n (kinds_in cells)
kinds-repeated name cells zero = refl
kinds-repeated name cells (suc n) =
    let each : ℕ → List Inner = λ k. map (seen_from_outside (member name ∷ element k ∷ [])) cells in
    ap kinds_in (flat-append each (below n) (n ∷ []))
    ∙ kinds-append (flat_map each (below n)) (each n ++ [])
    ∙ ap (λ l. kinds_in (flat_map each (below n)) ++ kinds_in l) (append-nil (each n))
    ∙ ap (λ l. l ++ kinds_in (each n)) (kinds-repeated name cells n)
    ∙ ap (λ l. repeated n (kinds_in cells) ++ l) (kinds-inside (member name ∷ element n ∷ []) cells)
    ∙ repeated-last n (kinds_in cells)

-- the kinds of a member: those of its type, as often as it has elements
pub kinds-member : (structs : List CStruct) (m : CMember) → kinds_of_member structs m ≡ repeated (unwrap_or m.length 1) (kinds_of_type structs m.ty)
kinds-member structs m = by_length m.length (inner_of_type (scalars_of structs) m.ty)
  where
    by_length : (o : Option ℕ) (cells : List Inner) → kinds_in (inner_of_length m.name o cells) ≡ repeated (unwrap_or o 1) (kinds_in cells)
    by_length None cells = kinds-inside (member m.name ∷ []) cells ∙ sym (append-nil (kinds_in cells))
    by_length (Some n) cells = kinds-repeated m.name cells n

pub kinds-at : (root : Root) (cells : List Inner) → map (λ cell. cell.kind) (cells_at root cells) ≡ kinds_in cells
kinds-at root [] = refl
kinds-at root (cell ∷ cells) = ap (λ l. cell.kind ∷ l) (kinds-at root cells)

-- ---- places

-- a table, and then the scalars of more structs
abbrev grown : Table (List Inner) → List CStruct → Table (List Inner)
grown known structs name = option_or (known name) (found name (inner_after known structs))

grown-none : (known : Table (List Inner)) → grown known [] ≡ known
grown-none known = same_table (grown known []) known (λ name. nothing_after (known name))

grown-next : (known : Table (List Inner)) (s : CStruct) (rest : List CStruct) →
    grown known (s ∷ rest) ≡ grown (with_entry known s.name (flat_map (inner_of_member known) s.members)) rest
grown-next known s rest =
    same_table (grown known (s ∷ rest)) (grown (with_entry known s.name (flat_map (inner_of_member known) s.members)) rest)
    (λ name. sym (next_entry (known name) (bytes_eq s.name name) (flat_map (inner_of_member known) s.members)
    (found name (inner_after (with_entry known s.name (flat_map (inner_of_member known) s.members)) rest))))

abbrev cells_after : Table (List Inner) → CStruct → List Inner
cells_after known s = flat_map (inner_of_member known) s.members

abbrev known_after : Table (List Inner) → CStruct → Table (List Inner)
known_after known s = with_entry known s.name (cells_after known s)

module _ (name : Text) where
  -- what is found at a place is what the struct there has after those before it
  abbrev FoundAt : Table (List Inner) → List CStruct → ℕ → ℕ → CStruct → Type 0
  FoundAt known structs end at d =
      found name (inner_after known (take end structs)) ≡ Some (flat_map (inner_of_member (grown known (take at structs))) (get_or structs at d).members)

  module _ (known : Table (List Inner)) (s : CStruct) (rest : List CStruct) (end : ℕ) (d : CStruct)
      (next : (k : ℕ) → struct_position name rest ≡ Some k → k < end → FoundAt (known_after known s) rest end k d) where
    found-later : (at : ℕ) → at < suc end → (o : Option ℕ) → struct_position name rest ≡ o → option_map suc o ≡ Some at →
        found name (inner_after (known_after known s) (take end rest))
        ≡ Some (flat_map (inner_of_member (grown known (take at (s ∷ rest)))) (get_or (s ∷ rest) at d).members)
    found-later at within None there h = cc
    found-later at within (Some k) there h =
        let same : suc k ≡ at = same_some (suc k) at h in
        let below_end : k < end = omega (arith, same, within) in
        subst (λ n. found name (inner_after (known_after known s) (take end rest))
        ≡ Some (flat_map (inner_of_member (grown known (take n (s ∷ rest)))) (get_or (s ∷ rest) n d).members)) same
        (next k there below_end ∙ ap (λ t. Some (flat_map (inner_of_member t) (get_or rest k d).members)) (sym (grown-next known s (take k rest))))

    found-here : (at : ℕ) → at < suc end → (b : Bool) → (if b then Some 0 else option_map suc (struct_position name rest)) ≡ Some at →
        (if b then Some (cells_after known s) else found name (inner_after (known_after known s) (take end rest)))
        ≡ Some (flat_map (inner_of_member (grown known (take at (s ∷ rest)))) (get_or (s ∷ rest) at d).members)
    found-here at within true h =
        subst (λ n. Some (cells_after known s) ≡ Some (flat_map (inner_of_member (grown known (take n (s ∷ rest)))) (get_or (s ∷ rest) n d).members))
        (same_some 0 at h) (ap (λ t. Some (flat_map (inner_of_member t) s.members)) (sym (grown-none known)))
    found-here at within false h = found-later at within (struct_position name rest) refl h

  found-at : (known : Table (List Inner)) (structs : List CStruct) (end at : ℕ) (d : CStruct) → struct_position name structs ≡ Some at → at < end →
      FoundAt known structs end at d
  found-at known [] end at d is within = cc
  found-at known (s ∷ rest) zero at d is within = absurd (grind (arith, common_steps))
  found-at known (s ∷ rest) (suc end) at d is within =
      found-here known s rest end d (λ k there below. found-at (known_after known s) rest end k d there below) at within (bytes_eq s.name name) is

  none-either : (b : Bool) (j k : ℕ) → (if b then Some j else None) ≡ None → (if b then Some k else None) ≡ None
  none-either true j k h = cc
  none-either false j k h = refl

  some-apart : {X : Type 0} (b : Bool) (j : ℕ) → b ≡ true → (if b then Some j else None) ≡ None → X
  some-apart true j is h = cc
  some-apart false j is h = cc

  none-later : (end : ℕ) (o : Option ℕ) → if_below (suc end) (option_map suc o) ≡ None → if_below end o ≡ None
  none-later end None h = refl
  none-later end (Some k) h =
      let same : nat_lt (suc k) (suc end) ≡ nat_lt k end = grind (arith, common_steps) in
      none-either (nat_lt k end) (suc k) k (subst (λ b. (if b then Some (suc k) else None) ≡ None) same h)

  none-here : (end : ℕ) (b : Bool) (cells : List Inner) (later : Option (List Inner)) (o : Option ℕ) → (if_below end o ≡ None → later ≡ None) →
      if_below (suc end) (if b then Some 0 else option_map suc o) ≡ None → (if b then Some cells else later) ≡ None
  none-here end true cells later o next h = let below : nat_lt 0 (suc end) ≡ true = grind (arith, common_steps) in some-apart (nat_lt 0 (suc end)) 0 below h
  none-here end false cells later o next h = next (none-later end o h)

  not-found : (known : Table (List Inner)) (structs : List CStruct) (end : ℕ) → placed_before end name structs ≡ None →
      found name (inner_after known (take end structs)) ≡ None
  not-found known structs zero is = refl
  not-found known [] (suc end) is = refl
  not-found known (s ∷ rest) (suc end) is =
      none-here end (bytes_eq s.name name) (cells_after known s) (found name (inner_after (known_after known s) (take end rest))) (struct_position name rest)
      (λ h. not-found (known_after known s) rest end h) is

  within-later : (n at : ℕ) (o : Option ℕ) → ((k : ℕ) → o ≡ Some k → k < n) → option_map suc o ≡ Some at → at < suc n
  within-later n at None next h = cc
  within-later n at (Some k) next h = let same : suc k ≡ at = same_some (suc k) at h in let below : k < n = next k refl in omega (arith, same, below)

  within-here : (n at : ℕ) (b : Bool) (o : Option ℕ) → ((k : ℕ) → o ≡ Some k → k < n) →
      (if b then Some 0 else option_map suc o) ≡ Some at → at < suc n
  within-here n at true o next h = let same : 0 ≡ at = same_some 0 at h in omega (arith, same)
  within-here n at false o next h = within-later n at o next h

  pub placed-within : (structs : List CStruct) (at : ℕ) → struct_position name structs ≡ Some at → at < length structs
  placed-within [] at is = cc
  placed-within (s ∷ rest) at is = within-here (length rest) at (bytes_eq s.name name) (struct_position name rest) (λ k there. placed-within rest k there) is

  module _ (s : CStruct) (rest : List CStruct) (d : CStruct) (next : (k : ℕ) → struct_position name rest ≡ Some k → (get_or rest k d).name ≡ name) where
    name-later : (at : ℕ) (o : Option ℕ) → struct_position name rest ≡ o → option_map suc o ≡ Some at → (get_or (s ∷ rest) at d).name ≡ name
    name-later at None there h = cc
    name-later at (Some k) there h = subst (λ n. (get_or (s ∷ rest) n d).name ≡ name) (same_some (suc k) at h) (next k there)

    name-here : (at : ℕ) (b : Bool) → bytes_eq s.name name ≡ b → (if b then Some 0 else option_map suc (struct_position name rest)) ≡ Some at →
        (get_or (s ∷ rest) at d).name ≡ name
    name-here at true here h = subst (λ n. (get_or (s ∷ rest) n d).name ≡ name) (same_some 0 at h) ((bytes_eq-Decides s.name name).0 here)
    name-here at false here h = name-later at (struct_position name rest) refl h

  pub found-name : (structs : List CStruct) (at : ℕ) (d : CStruct) → struct_position name structs ≡ Some at → (get_or structs at d).name ≡ name
  found-name [] at d is = cc
  found-name (s ∷ rest) at d is = name-here s rest d (λ k there. found-name rest k d there) at (bytes_eq s.name name) refl is

  pub kinds-none : (structs : List CStruct) (end : ℕ) → placed_before end name structs ≡ None → kinds_named (take end structs) name ≡ []
  kinds-none structs end is = ap (λ o. kinds_in (unwrap_or o [])) (not-found no_entries structs end is)

  pub kinds-some : (structs : List CStruct) (end at : ℕ) (d : CStruct) → struct_position name structs ≡ Some at → at < end →
      kinds_named (take end structs) name ≡ kinds_of_members (take at structs) (get_or structs at d).members
  kinds-some structs end at d is within = ap (λ o. kinds_in (unwrap_or o [])) (found-at no_entries structs end at d is within)

  -- the first struct of a name is made of the structs before it
  pub kinds-whole : (structs : List CStruct) (at : ℕ) (d : CStruct) → struct_position name structs ≡ Some at →
      kinds_named structs name ≡ kinds_of_members (take at structs) (get_or structs at d).members
  kinds-whole structs at d is =
      subst (λ l. kinds_named l name ≡ kinds_of_members (take at structs) (get_or structs at d).members) (take_all (length structs) structs (omega arith))
      (kinds-some structs (length structs) at d is (placed-within structs at is))

  -- a struct that stands among the first ones has the same kinds among all
  pub kinds-same : (structs : List CStruct) (end at : ℕ) (d : CStruct) → struct_position name structs ≡ Some at → at < end →
      kinds_named (take end structs) name ≡ kinds_named structs name
  kinds-same structs end at d is within = kinds-some structs end at d is within ∙ sym (kinds-whole structs at d is)

  pub placed-before : (structs : List CStruct) (end at : ℕ) → placed_before end name structs ≡ Some at → struct_position name structs ≡ Some at
  placed-before structs end at is = there (struct_position name structs) is
    where
      chosen : (k : ℕ) (b : Bool) → (if b then Some k else None) ≡ Some at → Some k ≡ Some at
      chosen k true h = h
      chosen k false h = cc

      there : (o : Option ℕ) → if_below end o ≡ Some at → o ≡ Some at
      there None h = cc
      there (Some k) h = chosen k (nat_lt k end) h

  pub before-end : (structs : List CStruct) (end at : ℕ) → placed_before end name structs ≡ Some at → at < end
  before-end structs end at is = there (struct_position name structs) is
    where
      chosen : (k : ℕ) (b : Bool) → nat_lt k end ≡ b → (if b then Some k else None) ≡ Some at → at < end
      chosen k true less h = let same : k ≡ at = same_some k at h in let below : nat_lt at end ≡ true = ap (λ n. nat_lt n end) (sym same) ∙ less in
          grind (arith, common_steps)
      chosen k false less h = cc

      there : (o : Option ℕ) → if_below end o ≡ Some at → at < end
      there None h = cc
      there (Some k) h = chosen k (nat_lt k end) refl h
