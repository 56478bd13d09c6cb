-- The inputs and outputs of a well-formed file.
use Rattle.std.proofs.Common.{◌≡◌, ℕ, zero, suc, ◌+◌, Bool, true, false, ◌&&◌, List, [], ◌∷◌, ◌++◌, map, length, drop, Option, Some, None, refl, ap}
use Rattle.std.proofs.Common.{sym, subst, ◌∙◌, arith}
use Rattle.std.specs.Prelude.{⊤, bytes_eq, codes, flat_map, is_none, nat_eq, nat_lt, nat_le, option_map, slice_get, unwrap_or, if◌then◌else◌}
use Rattle.std.specs.List.{list_all, starts_with}
use Rattle.std.specs.Str.{IsCharBoundary, IsUtf8}
use Rattle.std.proofs.lemmas.Grind.{common_steps}
use Rattle.std.proofs.lemmas.Str.{IsCharBoundary-after_ascii}
use Rattle.std.proofs.lemmas.List.{length-append}
use Rattle.std.proofs.lemmas.List.Elements.{All-nil, All-cons}
use Rattle.std.proofs.lemmas.Slice.Eq.{bytes_eq-Decides}
use Rattle.std.proofs.lemmas.Bool.{and_from}
use Rattle.bl_tree.proofs.Basics.{and_first, and_second, get_behind, get_in_front, same_some, first_empty, second_empty}
use Rattle.bl_tree.specs.declared.text.Text.{Text}
use Rattle.bl_tree.specs.declared.scalar.Scalar.{Scalar}
use Rattle.bl_tree.specs.declared.scalar.Scalar.TheVariants.{Nat}
use Rattle.bl_tree.specs.declared.scalar.Width.TheVariants.{W8}
use Rattle.bl_tree.specs.declared.c.CType.{CType}
use Rattle.bl_tree.specs.declared.c.CType.TheVariants.{Scalar as OfScalar, Struct as OfStruct}
use Rattle.bl_tree.specs.declared.c.CMember.{CMember}
use Rattle.bl_tree.specs.declared.c.CStruct.{CStruct}
use Rattle.bl_ctext_semantics.specs.Parts.{Parts}
use Rattle.bl_ctext_semantics.specs.Memory.{member, Root, state_object, input_object, output_object}
use Rattle.bl_ctext_semantics.specs.Tables.{Table, found, no_entries, with_entry}
use Rattle.bl_ctext_semantics.specs.Cells.{Cell, Inner, cells_at, cells_of, inner_of, inner_of_length, inner_of_member, inner_of_type, inner_after, members_of, port}
use Rattle.bl_ctext_semantics.specs.Faults.{distinct_names, declared_before, short_chain, interface_members, WellFormed, all_distinct, are_ports}
use Rattle.bl_ctext_semantics.specs.Faults.{depth_of_struct, faults_in, faults_in_struct, interface_fits, is_declared, is_pad, is_port, is_scalar}
use Rattle.bl_ctext_semantics.specs.Faults.{member_table, same_type, struct_faults_after, unless}
use Rattle.bl_crun_ports.specs.Ports.{PortsStand, StandFrom, StructsOfWellFormed, inputs_start, outputs_start}
use Rattle.bl_crun_ports.specs.inner.Prefixed.{AllPrefixed, Prefixed}

then-is : (b x y : Bool) → b ≡ true → (if b then x else y) ≡ true → x ≡ true
then-is true x y h is = is
then-is false x y h is = cc

else-is : (b x y : Bool) → b ≡ false → (if b then x else y) ≡ true → y ≡ true
else-is false x y h is = is
else-is true x y h is = cc

unless-nil : (holds : Bool) (clause : _) (place : _) → unless holds clause place ≡ [] → holds ≡ true
unless-nil true clause place h = refl
unless-nil false clause place h = cc

-- ---- members of the interface structs

interfaces-fit : (structs : Table (Table CMember)) (depths : Table ℕ) (list : List CStruct) → struct_faults_after structs depths list ≡ [] →
    list_all interface_fits list ≡ true
interfaces-fit structs depths [] none = refl
interfaces-fit structs depths (s ∷ rest) none =
    let here : faults_in_struct structs depths s ≡ [] = first_empty (faults_in_struct structs depths s) _ none in
    let later = second_empty (faults_in_struct structs depths s) _ none in
    let h1 = second_empty (unless (is_none (structs s.name)) distinct_names s.place) _ here in
    let h2 = second_empty (unless (list_all (λ m. is_declared structs m.ty) s.members) declared_before s.place) _ h1 in
    let h3 = second_empty (unless (all_distinct no_entries (map (λ m. m.name) s.members)) distinct_names s.place) _ h2 in
    let h4 = second_empty (unless (nat_le (depth_of_struct depths s) 300) short_chain s.place) _ h3 in
    and_from (interface_fits s) (list_all interface_fits rest) (unless-nil (interface_fits s) interface_members s.place h4)
    (interfaces-fit (with_entry structs s.name (member_table s)) (with_entry depths s.name (depth_of_struct depths s)) rest later)

all-fit : (file : Parts) → WellFormed file → list_all interface_fits file.structs ≡ true
unfolding faults_in
all-fit file formed = interfaces-fit no_entries no_entries file.structs (first_empty (struct_faults_after no_entries no_entries file.structs) _ formed.none)

input-fits : (s : CStruct) → bytes_eq s.name (codes "bl_in") ≡ true → interface_fits s ≡ true → are_ports (codes "i_") s.members ≡ true
input-fits s is fit = then-is (bytes_eq s.name (codes "bl_in")) _ _ is fit

other-name : (name : Text) → bytes_eq name (codes "bl_out") ≡ true → bytes_eq name (codes "bl_in") ≡ false
other-name name is = subst (λ n. bytes_eq n (codes "bl_in") ≡ false) (sym ((bytes_eq-Decides name (codes "bl_out")).0 is)) refl

output-fits : (s : CStruct) → bytes_eq s.name (codes "bl_out") ≡ true → interface_fits s ≡ true → are_ports (codes "o_") s.members ≡ true
output-fits s is fit = then-is (bytes_eq s.name (codes "bl_out")) _ _ is (else-is (bytes_eq s.name (codes "bl_in")) _ _ (other-name s.name is) fit)

-- nothing, or members that are ports
abbrev Ported : Text → Option (List CMember) → Type 0
Ported prefix None = ⊤
Ported prefix (Some ms) = are_ports prefix ms ≡ true

module _ (name prefix : Text) (fit : (s : CStruct) → bytes_eq s.name name ≡ true → interface_fits s ≡ true →
    are_ports prefix s.members ≡ true) where
  ported-here : (s : CStruct) (later : Option (List CMember)) → interface_fits s ≡ true → Ported prefix later → (b : Bool) →
      bytes_eq s.name name ≡ b →
      Ported prefix (if b then Some s.members else later)
  ported-here s later fits next true is = fit s is fits
  ported-here s later fits next false is = next

  ported : (list : List CStruct) → list_all interface_fits list ≡ true → Ported prefix (found name (map (λ s. (s.name, s.members)) list))
  ported [] all = tt
  ported (s ∷ rest) all =
      ported-here s (found name (map (λ t. (t.name, t.members)) rest)) (and_first (interface_fits s) _ all) (ported rest (and_second (interface_fits s) _ all))
      (bytes_eq s.name name) refl

-- ---- names

second : (name : Text) → starts_with nat_eq name (codes "i_") ≡ true → Prefixed name
second [] h = cc
second (a ∷ []) h = absurd (grind (arith, common_steps))
second (a ∷ b ∷ rest) h = grind (arith, common_steps)

second-output : (name : Text) → starts_with nat_eq name (codes "o_") ≡ true → Prefixed name
second-output [] h = cc
second-output (a ∷ []) h = absurd (grind (arith, common_steps))
second-output (a ∷ b ∷ rest) h = grind (arith, common_steps)

module _ (prefix : Text) (begins : (name : Text) → starts_with nat_eq name prefix ≡ true → Prefixed name) where
  all-prefixed : (ms : List CMember) → list_all (is_port prefix) ms ≡ true → AllPrefixed ms
  all-prefixed [] all = All-nil (λ m. Prefixed m.name)
  all-prefixed (m ∷ ms) all =
      All-cons (λ m. Prefixed m.name) m ms
      (begins m.name (and_first (starts_with nat_eq m.name prefix) _
      (and_first (starts_with nat_eq m.name prefix && nat_lt (length prefix) (length m.name)) _ (and_first (is_port prefix m) _ all))))
      (all-prefixed ms (and_second (is_port prefix m) _ all))

  ports-prefixed : (o : Option (List CMember)) → Ported prefix o → AllPrefixed (drop 1 (unwrap_or o []))
  ports-prefixed None h = All-nil (λ m. Prefixed m.name)
  ports-prefixed (Some []) h = All-nil (λ m. Prefixed m.name)
  ports-prefixed (Some (m ∷ ms)) h = all-prefixed ms (and_second (is_pad m) _ h)

pub inputs-prefixed : (structs : List CStruct) → StructsOfWellFormed structs → AllPrefixed (drop 1 (members_of (codes "bl_in") structs))
inputs-prefixed structs formed =
    ports-prefixed (codes "i_") second (found (codes "bl_in") (map (λ s. (s.name, s.members)) structs))
    (ported (codes "bl_in") (codes "i_") input-fits structs (all-fit (record { structs = structs; funcs = formed.0 }) formed.1))

pub outputs-prefixed : (structs : List CStruct) → StructsOfWellFormed structs → AllPrefixed (drop 1 (members_of (codes "bl_out") structs))
outputs-prefixed structs formed =
    ports-prefixed (codes "o_") second-output (found (codes "bl_out") (map (λ s. (s.name, s.members)) structs))
    (ported (codes "bl_out") (codes "o_") output-fits structs (all-fit (record { structs = structs; funcs = formed.0 }) formed.1))

-- ---- cells

-- the member's cell, seen from its object
abbrev OneCell : Table (List Inner) → CMember → Type 0
OneCell known m = (kind : Scalar) × ((m.ty ≡ OfScalar kind) × (inner_of_member known m ≡ record { parts = member m.name ∷ []; kind = kind } ∷ []))

one-cell : (known : Table (List Inner)) (m : CMember) → is_scalar m.ty ≡ true → is_none m.length ≡ true → OneCell known m
one-cell known m scalar single = by_type m.ty m.length scalar single
  where
    by_type : (ty : CType) (length : Option ℕ) → is_scalar ty ≡ true → is_none length ≡ true →
        (kind : Scalar) × ((ty ≡ OfScalar kind)
        × (inner_of_length m.name length (inner_of_type known ty) ≡ record { parts = member m.name ∷ []; kind = kind } ∷ []))
    by_type (OfScalar kind) None h k = (kind, (refl, refl))
    by_type (OfScalar kind) (Some n) h k = cc
    by_type (OfStruct name) length h k = cc

pad-scalar : (ty : CType) → same_type ty (OfScalar (Nat W8)) ≡ true → is_scalar ty ≡ true
pad-scalar (OfScalar kind) h = refl
pad-scalar (OfStruct name) h = cc

pad-cell : (known : Table (List Inner)) (m : CMember) → is_pad m ≡ true → OneCell known m
pad-cell known m h =
    let rest = and_second (bytes_eq m.name (codes "pad")) _ h in
    one-cell known m (pad-scalar m.ty (and_first (same_type m.ty (OfScalar (Nat W8))) _ rest)) (and_second (same_type m.ty (OfScalar (Nat W8))) _ rest)

port-cell : (known : Table (List Inner)) (prefix : Text) (m : CMember) → is_port prefix m ≡ true → OneCell known m
port-cell known prefix m h =
    let rest = and_second (starts_with nat_eq m.name prefix && nat_lt (length prefix) (length m.name)) _ h in
    one-cell known m (and_first (is_scalar m.ty) _ rest) (and_second (is_scalar m.ty) _ rest)

-- the cell of a port stands at this index
abbrev StandsAt : Root → List Cell → ℕ → CMember → Type 0
StandsAt root cells k m = (kind : Scalar) × ((m.ty ≡ OfScalar kind) × (slice_get cells k ≡ Some (record { location = port root m; kind = kind })))

module _ (root : Root) (known : Table (List Inner)) (prefix : Text) where
  abbrev cells_of_members : List CMember → List Cell
  cells_of_members ms = cells_at root (flat_map (inner_of_member known) ms)

  one-more : (m : CMember) (ms : List CMember) (cell : Inner) → inner_of_member known m ≡ cell ∷ [] →
      cells_of_members (m ∷ ms) ≡ record { location = record { root = root; parts = cell.parts }; kind = cell.kind } ∷ cells_of_members ms
  one-more m ms cell is = ap (λ l. cells_at root (l ++ flat_map (inner_of_member known) ms)) is

  ports-stand : (ms : List CMember) (k : ℕ) (m : CMember) → list_all (is_port prefix) ms ≡ true → slice_get ms k ≡ Some m →
      StandsAt root (cells_of_members ms) k m
  ports-stand [] k m all is = cc
  ports-stand (p ∷ ms) zero m all is =
      let here = port-cell known prefix p (and_first (is_port prefix p) _ all) in
      let same : p ≡ m = same_some p m is in (
        here.0,
        (
          ap (λ (q : CMember). q.ty) (sym same) ∙ here.1.0,
          ap (λ l. slice_get l 0) (one-more p ms _ here.1.1)
              ∙ ap (λ q. Some (record { location = port root q; kind = here.0 })) same,
        ),
      )
  ports-stand (p ∷ ms) (suc k) m all is =
      let here = port-cell known prefix p (and_first (is_port prefix p) _ all) in
      let later = ports-stand ms k m (and_second (is_port prefix p) _ all) is in
      (later.0, (later.1.0, ap (λ l. slice_get l (suc k)) (one-more p ms _ here.1.1) ∙ later.1.1))

  behind-pad : (ms : List CMember) (k : ℕ) (m : CMember) → are_ports prefix ms ≡ true → slice_get (drop 1 ms) k ≡ Some m →
      StandsAt root (cells_of_members ms) (suc k) m
  behind-pad [] k m all is = cc
  behind-pad (p ∷ ms) k m all is =
      let here = pad-cell known p (and_first (is_pad p) _ all) in
      let later = ports-stand ms k m (and_second (is_pad p) _ all) is in
      (later.0, (later.1.0, ap (λ l. slice_get l (suc k)) (one-more p ms _ here.1.1) ∙ later.1.1))

-- the scalars of a struct, over those of some structs
abbrev Over : Option (List Inner) → Option (List CMember) → Type 0
Over cells members = (before : Table (List Inner)) × (cells ≡ option_map (flat_map (inner_of_member before)) members)

over-either : (b : Bool) (known : Table (List Inner)) (ms : List CMember) (cells : Option (List Inner))
    (members : Option (List CMember)) → Over cells members →
    Over (if b then Some (flat_map (inner_of_member known) ms) else cells) (if b then Some ms else members)
over-either true known ms cells members later = (known, refl)
over-either false known ms cells members later = later

by-members : (name : Text) (known : Table (List Inner)) (list : List CStruct) →
    Over (found name (inner_after known list)) (found name (map (λ s. (s.name, s.members)) list))
by-members name known [] = (known, refl)
by-members name known (s ∷ rest) =
    over-either (bytes_eq s.name name) known s.members (found name (inner_after (with_entry known s.name (flat_map (inner_of_member known) s.members)) rest))
    (found name (map (λ t. (t.name, t.members)) rest)) (by-members name (with_entry known s.name (flat_map (inner_of_member known) s.members)) rest)

object-stands : (root : Root) (name prefix : Text) (structs : List CStruct) → Ported prefix (found name (map (λ s. (s.name, s.members)) structs)) →
    (k : ℕ) (m : CMember) →
    slice_get (drop 1 (members_of name structs)) k ≡ Some m → StandsAt root (cells_at root (inner_of structs name)) (suc k) m
object-stands root name prefix structs fit k m is =
    let laid = by-members name no_entries structs in
    subst (λ o. StandsAt root (cells_at root (unwrap_or o [])) (suc k) m) (sym laid.1)
    (chosen laid.0 (found name (map (λ s. (s.name, s.members)) structs)) fit is)
  where
    chosen : (before : Table (List Inner)) (o : Option (List CMember)) → Ported prefix o → slice_get (drop 1 (unwrap_or o [])) k ≡ Some m →
        StandsAt root (cells_at root (unwrap_or (option_map (flat_map (inner_of_member before)) o) [])) (suc k) m
    chosen before None fit is = cc
    chosen before (Some ms) fit is = behind-pad root before prefix ms k m fit is

cells-long : (root : Root) (cells : List Inner) → length (cells_at root cells) ≡ length cells
cells-long root [] = refl
cells-long root (cell ∷ cells) = ap suc (cells-long root cells)

index : (start n k : ℕ) → start ≡ n → n + suc k ≡ start + 1 + k
index start n k is = omega arith

module _ (file : Parts) (formed : WellFormed file) where
  abbrev state : List Cell
  state = cells_at state_object (inner_of file.structs (codes "bl_state"))

  abbrev input : List Cell
  input = cells_at input_object (inner_of file.structs (codes "bl_in"))

  abbrev output : List Cell
  output = cells_at output_object (inner_of file.structs (codes "bl_out"))

  state-long : length state ≡ inputs_start file.structs
  state-long = cells-long state_object (inner_of file.structs (codes "bl_state"))

  both-long : outputs_start file.structs ≡ length (state ++ input)
  both-long = omega (arith, length-append state input, state-long, cells-long input_object (inner_of file.structs (codes "bl_in")))

  inputs-stand : StandFrom file (inputs_start file.structs) input_object (codes "bl_in")
  unfolding cells_of
  inputs-stand k m is =
      let here = object-stands input_object (codes "bl_in") (codes "i_") file.structs
      (ported (codes "bl_in") (codes "i_") input-fits file.structs (all-fit file formed)) k m is in (
        here.0,
        (
          here.1.0,
          ap (slice_get (state ++ input ++ output)) (sym (index (inputs_start file.structs) (length state) k (sym state-long)))
              ∙ get_in_front (state ++ input) output (length state + suc k) _ (get_behind state input (suc k) ∙ here.1.1),
        ),
      )

  outputs-stand : StandFrom file (outputs_start file.structs) output_object (codes "bl_out")
  unfolding cells_of
  outputs-stand k m is =
      let here = object-stands output_object (codes "bl_out") (codes "o_") file.structs
      (ported (codes "bl_out") (codes "o_") output-fits file.structs (all-fit file formed)) k m is in (
        here.0,
        (
          here.1.0,
          ap (slice_get (state ++ input ++ output)) (sym (index (outputs_start file.structs) (length (state ++ input)) k both-long))
              ∙ get_behind (state ++ input) output (suc k) ∙ here.1.1,
        ),
      )

pub ports-stand-in : (file : Parts) → PortsStand file
ports-stand-in file formed = (inputs-stand file formed, outputs-stand file formed)

-- ---- names, once more

-- a name's third byte begins a character
pub boundary : (name text : Text) → text ≡ name → IsUtf8 text → Prefixed name → IsCharBoundary text 2
boundary name text is utf8 h =
    let told : Prefixed text = subst Prefixed (sym is) h in
    IsCharBoundary-after_ascii text 1 utf8 (omega (arith, told.0)) told.1
