-- What the parser makes of words that are not empty and do not begin with a hyphen (45), where the command itself takes no values.
use Rattle.std.proofs.Common.{◌≡◌, ◌∙◌, ◌==◌, ℕ, false, true, refl, sym, ap, List, [], ◌∷◌, Some, None, codes, find}
use Rattle.std.specs.List.{fold}
use Rattle.std.specs.Str.{bytes_eq}
use Rattle.clap.specs.Walk.{Held, Names, Rule, Step, Text, Walk, answers_to, idle, nothing_held, subcommand, value, walk, walk_from, walked, word_met}
use Rattle.clap.specs.Simple.{App, Shape, entered, label_of, names_of, rows_at}
use Rattle.clap.specs.Faults.{built_fault, defaults_fault, level_fault, walk_fault, word_fault}
use Rattle.clap.specs.Kinds.{Kinds, or_else}
use Rattle.clap.specs.declared.error.kind.ErrorKind.TheVariants.{InvalidSubcommand, UnknownArgument}
use Rattle.clap.proofs.FaultLemmas.{stopped_fault}
use Rattle.clap.proofs.WalkLemmas.{walk_stopped}

-- a word that names no command is a value
value_met : (rules : List Rule) (names : Names) (position byte : ℕ) (rest : Text) (h : Held) → (byte == 45) ≡ false →
    find (answers_to (byte ∷ rest)) names ≡ None
    → word_met rules names false idle position (byte ∷ rest) h ≡ (h, value)
value_met rules names position byte rest h plain none = rw (none, plain, plain) refl

no_word_fault : (s : Shape) (names : Names) (byte : ℕ) (rest : Text) (h : Held) → (byte == 45) ≡ false
    → find (answers_to (byte ∷ rest)) names ≡ None
    → word_fault s names false idle (byte ∷ rest) h ≡ []
no_word_fault s names byte rest h plain none = rw (none, plain, plain) refl

-- a command that takes no values of its own and knows no `help`, with its subcommands
abbrev pub bare : Shape → List Shape → App
bare s subs = record {
  top = record s {
    rules = [];
    is_leaf = false;
    disable_help_subcommand = true;
    arg_required_else_help = false;
    subcommand_negates_reqs = false;
  };
  subs = subs;
}

-- a first word that names no subcommand is refused
pub unknown_refused : (s : Shape) (subs : List Shape) (byte : ℕ) (rest : Text) (values : List Text) → (byte == 45) ≡ false
    → find (answers_to (byte ∷ rest)) (names_of (bare s subs)) ≡ None →
    built_fault (bare s subs) nothing_held ((byte ∷ rest) ∷ values) ≡ UnknownArgument ∷ InvalidSubcommand ∷ []
unfolding walk_fault
unknown_refused s subs byte rest values plain none =
    let met = value_met [] (names_of (bare s subs)) 1 byte rest nothing_held plain none in
    let fine = no_word_fault (bare s subs).top (names_of (bare s subs)) byte rest nothing_held plain none in
    rw (fine, met) refl

or_else_nothing : (kinds : Kinds) → or_else kinds [] ≡ kinds
or_else_nothing [] = refl
or_else_nothing (k ∷ ks) = refl

first_enters : (names : Names) (name : Text) (aliases : List Text) → find (answers_to name) names ≡ Some (name, aliases)
    → ◌≡◌ {A = Walk} (walked [] names (walk_from nothing_held) name) (record (walk_from nothing_held) { stopped = Some (name, []) })
unfolding walked
first_enters names name aliases named = rw named refl

-- a first word that names a subcommand leaves the other words to it
pub walk_enters : (names : Names) (name : Text) (aliases values : List Text) → find (answers_to name) names ≡ Some (name, aliases)
    → ◌≡◌ {A = Walk} (walk [] names nothing_held (name ∷ values)) (record (walk_from nothing_held) { stopped = Some (name, values) })
walk_enters names name aliases values named =
    ap (λ (w : Walk). fold (walked [] names) w values) (first_enters names name aliases named)
    ∙ sym (walk_stopped [] names (walk_from nothing_held) name [] values)

enters_faultless : (s : Shape) (subs : List Shape) (name : Text) (aliases values : List Text) →
    find (answers_to name) (names_of (bare s subs)) ≡ Some (name, aliases)
    → bytes_eq name (codes "help") ≡ false → walk_fault (bare s subs).top (names_of (bare s subs)) (walk_from nothing_held) (name ∷ values) ≡ []
unfolding walk_fault
enters_faultless s subs name aliases values named own =
    let names = names_of (bare s subs) in
    let top = (bare s subs).top in
    let word : word_fault top names false idle name nothing_held ≡ [] = rw (named, own) refl in
    let met : ◌≡◌ {A = Held × Step} (word_met [] names false idle 1 name nothing_held) (nothing_held, subcommand name) = rw named refl in
    rw (word, met, first_enters names name aliases named) (stopped_fault top names (walk_from nothing_held) (name, []) values)

-- the words fail as the subcommand that the first of them names fails at the others
pub fault_below : (s : Shape) (subs : List Shape) (name : Text) (aliases : List Text) (command : Shape) (values : List Text)
    → find (answers_to name) (names_of (bare s subs)) ≡ Some (name, aliases) →
    find (λ c. answers_to name (label_of c)) subs ≡ Some command → bytes_eq name (codes "help") ≡ false
    → built_fault (bare s subs) nothing_held (name ∷ values) ≡ level_fault command [] nothing_held values false []
unfolding defaults_fault
fault_below s subs name aliases command values named is own =
    rw (enters_faultless s subs name aliases values named own, walk_enters (names_of (bare s subs)) name aliases values named, is) (or_else_nothing _)

-- and are read as that subcommand reads them
pub rows_below : (s : Shape) (subs : List Shape) (name : Text) (aliases : List Text) (command : Shape) (values : List Text)
    → find (answers_to name) (names_of (bare s subs)) ≡ Some (name, aliases) → find (λ c. answers_to name (label_of c)) subs ≡ Some command
    → entered (bare s subs) (walk [] (names_of (bare s subs)) nothing_held (name ∷ values)).stopped ≡ Some (rows_at command values)
rows_below s subs name aliases command values named is =
    ap (λ (w : Walk). entered (bare s subs) w.stopped) (walk_enters (names_of (bare s subs)) name aliases values named) ∙ rw is refl
