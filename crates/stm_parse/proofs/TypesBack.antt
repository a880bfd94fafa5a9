-- The types of at most 8 `TVar`, case by case: each text computes.
use Rattle.std.proofs.Common.{◌≡◌, ◌≤◌, ℕ, zero, suc, codes, Ok, refl, arith}
use Rattle.stm_terms.specs.declared.kinds.Ty.{Ty}
use Rattle.stm_terms.specs.declared.kinds.Base.{Base}
use Rattle.stm_terms.specs.declared.kinds.Base.TheVariants as base
use Rattle.stm_terms.specs.Names.{is_name_text, is_control_word, is_action_word, is_value_word}
use Rattle.stm_terms.specs.Texts.{type_text}
use Rattle.stm_parse.specs.Declarations.{named}
use Rattle.stm_parse.specs.ParseFunction.{parsed_declaration, declared_tree, answered}
use Rattle.stm_parse.specs.Bytes.{pair_mark, single_mark, number_of_digits}
use Rattle.stm_parse.specs.Lexing.{control_mark, action_mark, choice_mark, value_mark}
use Rattle.stm_parse.specs.ParseResult.{most_bytes, most_tokens}
use Rattle.stm_parse.specs.Descent.{inside_type, bare_at, type_at}
use Rattle.stm_parse.specs.Tokenizer.{cut, front_of}
use Rattle.stm_parse.specs.TypeFunction.{parsed_type}
use Rattle.stm_parse.specs.TypeTexts.{declaring, TypesAreReadAlone, TypesAreReadBack}

abbrev IsReadBack : Ty → Type 0
IsReadBack t = (at : ℕ) × (parsed_declaration (declaring t) ≡ Ok (record { name = codes "a"; kind = t; init = named (codes "a") at }))

int_back : (n : ℕ) → n ≤ 8 → IsReadBack (record { base = base.Int; refs = n })
unfolding type_text parsed_declaration declared_tree answered cut front_of pair_mark single_mark number_of_digits control_mark action_mark choice_mark value_mark most_bytes most_tokens inside_type bare_at type_at is_name_text is_control_word is_action_word is_value_word
int_back zero h = (10, refl)
int_back (suc zero) h = (15, refl)
int_back (suc (suc zero)) h = (22, refl)
int_back (suc (suc (suc zero))) h = (29, refl)
int_back (suc (suc (suc (suc zero)))) h = (36, refl)
int_back (suc (suc (suc (suc (suc zero))))) h = (43, refl)
int_back (suc (suc (suc (suc (suc (suc zero)))))) h = (50, refl)
int_back (suc (suc (suc (suc (suc (suc (suc zero))))))) h = (57, refl)
int_back (suc (suc (suc (suc (suc (suc (suc (suc zero)))))))) h = (64, refl)
int_back (suc (suc (suc (suc (suc (suc (suc (suc (suc n))))))))) h = absurd (omega (arith, h))

bool_back : (n : ℕ) → n ≤ 8 → IsReadBack (record { base = base.Bool; refs = n })
unfolding type_text parsed_declaration declared_tree answered cut front_of pair_mark single_mark number_of_digits control_mark action_mark choice_mark value_mark most_bytes most_tokens inside_type bare_at type_at is_name_text is_control_word is_action_word is_value_word
bool_back zero h = (11, refl)
bool_back (suc zero) h = (16, refl)
bool_back (suc (suc zero)) h = (23, refl)
bool_back (suc (suc (suc zero))) h = (30, refl)
bool_back (suc (suc (suc (suc zero)))) h = (37, refl)
bool_back (suc (suc (suc (suc (suc zero))))) h = (44, refl)
bool_back (suc (suc (suc (suc (suc (suc zero)))))) h = (51, refl)
bool_back (suc (suc (suc (suc (suc (suc (suc zero))))))) h = (58, refl)
bool_back (suc (suc (suc (suc (suc (suc (suc (suc zero)))))))) h = (65, refl)
bool_back (suc (suc (suc (suc (suc (suc (suc (suc (suc n))))))))) h = absurd (omega (arith, h))

unit_back : (n : ℕ) → n ≤ 8 → IsReadBack (record { base = base.Unit; refs = n })
unfolding type_text parsed_declaration declared_tree answered cut front_of pair_mark single_mark number_of_digits control_mark action_mark choice_mark value_mark most_bytes most_tokens inside_type bare_at type_at is_name_text is_control_word is_action_word is_value_word
unit_back zero h = (9, refl)
unit_back (suc zero) h = (14, refl)
unit_back (suc (suc zero)) h = (21, refl)
unit_back (suc (suc (suc zero))) h = (28, refl)
unit_back (suc (suc (suc (suc zero)))) h = (35, refl)
unit_back (suc (suc (suc (suc (suc zero))))) h = (42, refl)
unit_back (suc (suc (suc (suc (suc (suc zero)))))) h = (49, refl)
unit_back (suc (suc (suc (suc (suc (suc (suc zero))))))) h = (56, refl)
unit_back (suc (suc (suc (suc (suc (suc (suc (suc zero)))))))) h = (63, refl)
unit_back (suc (suc (suc (suc (suc (suc (suc (suc (suc n))))))))) h = absurd (omega (arith, h))

by_base : (b : Base) (n : ℕ) → n ≤ 8 → IsReadBack (record { base = b; refs = n })
by_base base.Int n h = int_back n h
by_base base.Bool n h = bool_back n h
by_base base.Unit n h = unit_back n h

pub types_are_read_back : TypesAreReadBack
types_are_read_back t h = by_base t.base t.refs h

-- ---- by itself

abbrev IsReadAlone : Ty → Type 0
IsReadAlone t = parsed_type (type_text t) ≡ Ok t

int_alone : (n : ℕ) → n ≤ 8 → IsReadAlone (record { base = base.Int; refs = n })
unfolding type_text parsed_type answered cut front_of pair_mark single_mark number_of_digits control_mark action_mark choice_mark value_mark most_bytes most_tokens inside_type bare_at type_at is_name_text is_control_word is_action_word is_value_word
int_alone zero h = refl
int_alone (suc zero) h = refl
int_alone (suc (suc zero)) h = refl
int_alone (suc (suc (suc zero))) h = refl
int_alone (suc (suc (suc (suc zero)))) h = refl
int_alone (suc (suc (suc (suc (suc zero))))) h = refl
int_alone (suc (suc (suc (suc (suc (suc zero)))))) h = refl
int_alone (suc (suc (suc (suc (suc (suc (suc zero))))))) h = refl
int_alone (suc (suc (suc (suc (suc (suc (suc (suc zero)))))))) h = refl
int_alone (suc (suc (suc (suc (suc (suc (suc (suc (suc n))))))))) h = absurd (omega (arith, h))

bool_alone : (n : ℕ) → n ≤ 8 → IsReadAlone (record { base = base.Bool; refs = n })
unfolding type_text parsed_type answered cut front_of pair_mark single_mark number_of_digits control_mark action_mark choice_mark value_mark most_bytes most_tokens inside_type bare_at type_at is_name_text is_control_word is_action_word is_value_word
bool_alone zero h = refl
bool_alone (suc zero) h = refl
bool_alone (suc (suc zero)) h = refl
bool_alone (suc (suc (suc zero))) h = refl
bool_alone (suc (suc (suc (suc zero)))) h = refl
bool_alone (suc (suc (suc (suc (suc zero))))) h = refl
bool_alone (suc (suc (suc (suc (suc (suc zero)))))) h = refl
bool_alone (suc (suc (suc (suc (suc (suc (suc zero))))))) h = refl
bool_alone (suc (suc (suc (suc (suc (suc (suc (suc zero)))))))) h = refl
bool_alone (suc (suc (suc (suc (suc (suc (suc (suc (suc n))))))))) h = absurd (omega (arith, h))

unit_alone : (n : ℕ) → n ≤ 8 → IsReadAlone (record { base = base.Unit; refs = n })
unfolding type_text parsed_type answered cut front_of pair_mark single_mark number_of_digits control_mark action_mark choice_mark value_mark most_bytes most_tokens inside_type bare_at type_at is_name_text is_control_word is_action_word is_value_word
unit_alone zero h = refl
unit_alone (suc zero) h = refl
unit_alone (suc (suc zero)) h = refl
unit_alone (suc (suc (suc zero))) h = refl
unit_alone (suc (suc (suc (suc zero)))) h = refl
unit_alone (suc (suc (suc (suc (suc zero))))) h = refl
unit_alone (suc (suc (suc (suc (suc (suc zero)))))) h = refl
unit_alone (suc (suc (suc (suc (suc (suc (suc zero))))))) h = refl
unit_alone (suc (suc (suc (suc (suc (suc (suc (suc zero)))))))) h = refl
unit_alone (suc (suc (suc (suc (suc (suc (suc (suc (suc n))))))))) h = absurd (omega (arith, h))

alone_by_base : (b : Base) (n : ℕ) → n ≤ 8 → IsReadAlone (record { base = b; refs = n })
alone_by_base base.Int n h = int_alone n h
alone_by_base base.Bool n h = bool_alone n h
alone_by_base base.Unit n h = unit_alone n h

pub types_are_read_alone : TypesAreReadAlone
types_are_read_alone t h = alone_by_base t.base t.refs h
