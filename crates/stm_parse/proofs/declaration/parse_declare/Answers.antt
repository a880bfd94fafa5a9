use Rattle.std.proofs.Common.{◌≡◌, sym, ap, ◌∙◌, subst, Ok, rules, Err, ◌≢◌}
use Rattle.stm_terms.specs.Names.{is_name_text}
use Rattle.stm_parse.specs.Declarations.{declaration_tree_of, declaration_in}
use Rattle.stm_parse.specs.Grammar.{IsDeclaration}
use Rattle.stm_parse.specs.declared.fault.ParseFault.TheVariants as fault
use Rattle.stm_parse.specs.ParseResult.{IsReported}
use Rattle.stm_parse.specs.Descent.{declaration_reader}
use Rattle.stm_parse.specs.ParseFunction.{parsed_declaration}
use Rattle.stm_parse.proofs.CallsExact.{ok_declaration, stop_declaration}
use Rattle.stm_parse.proofs.TreeNamesAndSize.{kept_declaration}
use Rattle.stm_parse.proofs.FaultReported.{early_is_memory, text_of, ok_text, only_this, stop_reported, stop_is_memory}
use Rattle.stm_parse.proofs.TypeReaders.{good_declaration}
use Rattle.stm_parse.proofs.declaration.parse_declare.Goals as goal

pub owned-requires-clause-name : goal.owned-requires-clause-name
owned-requires-clause-name c =
    let e = rw c.deref.ensures.value at c.in-Ok.ensures.gives in
    (kept_declaration c.args.text.now c.in_ok-toks.toks.items (declaration_tree_of c.in-Ok.raw) (text_of declaration_reader IsDeclaration good_declaration c.args.text.now c.in_ok-toks.toks.items c.in_ok-toks.ensures.right (declaration_tree_of c.in-Ok.raw) e) c.in_ok-toks.ensures.names).0

pub owned-requires-clause-spans : goal.owned-requires-clause-spans
owned-requires-clause-spans c =
    let e = rw c.deref.ensures.value at c.in-Ok.ensures.gives in
    (kept_declaration c.args.text.now c.in_ok-toks.toks.items (declaration_tree_of c.in-Ok.raw) (text_of declaration_reader IsDeclaration good_declaration c.args.text.now c.in_ok-toks.toks.items c.in_ok-toks.ensures.right (declaration_tree_of c.in-Ok.raw) e) c.in_ok-toks.ensures.names).2

pub returns-in-Ok-clause-right : goal.returns-in-Ok-clause-right
returns-in-Ok-clause-right c =
    let e = rw c.deref.ensures.value at c.in-Ok.ensures.gives in
    (declaration_tree_of c.in-Ok.raw, ok_text declaration_reader IsDeclaration good_declaration c.args.text.now c.in_ok-toks.toks.items c.in_ok-toks.ensures.right (declaration_tree_of c.in-Ok.raw) e, c.in_ok-owned-in-Ok.ensures)

pub returns-in-Ok-clause-only : goal.returns-in-Ok-clause-only
returns-in-Ok-clause-only c =
    let e = rw c.deref.ensures.value at c.in-Ok.ensures.gives in
    λ t h. c.in_ok-owned-in-Ok.ensures ∙ ap (declaration_in c.args.text.now) (only_this declaration_reader IsDeclaration good_declaration c.args.text.now c.in_ok-toks.toks.items c.in_ok-toks.ensures.right t (declaration_tree_of c.in-Ok.raw) h e)

pub returns-in-Ok-clause-name : goal.returns-in-Ok-clause-name
returns-in-Ok-clause-name c =
    let e = rw c.deref.ensures.value at c.in-Ok.ensures.gives in
    let k = kept_declaration c.args.text.now c.in_ok-toks.toks.items (declaration_tree_of c.in-Ok.raw) (text_of declaration_reader IsDeclaration good_declaration c.args.text.now c.in_ok-toks.toks.items c.in_ok-toks.ensures.right (declaration_tree_of c.in-Ok.raw) e) c.in_ok-toks.ensures.names in
    ap (λ s. is_name_text s.name) c.in_ok-owned-in-Ok.ensures ∙ k.1

pub returns-clause-right : goal.returns-clause-right
returns-clause-right c =
    let e = rw c.deref.ensures.value at c.in-Err.ensures.gives in
    subst (IsReported IsDeclaration c.args.text.now) (sym (rw c.deref-in-Err.ensures.value at c.fault_of_failure.ensures)) (stop_reported declaration_reader IsDeclaration good_declaration c.args.text.now c.in_ok-toks.toks.items c.in_ok-toks.ensures.right c.in-Err.stop e)

pub returns-clause-only : goal.returns-clause-only
returns-clause-only c =
    let e = rw c.deref.ensures.value at c.in-Err.ensures.gives in
    λ t h. rw (rw c.deref-in-Err.ensures.value at c.fault_of_failure.ensures) (stop_is_memory declaration_reader IsDeclaration good_declaration c.args.text.now c.in_ok-toks.toks.items c.in_ok-toks.ensures.right t h c.in-Err.stop e)

pub returns-in-Ok-clause-answer : goal.returns-in-Ok-clause-answer
returns-in-Ok-clause-answer c =
    let e = rw c.deref.ensures.value at c.in-Ok.ensures.gives in
    ok_declaration c.args.text.now c.in_ok-toks.toks.items c.in_ok-toks.ensures.right (declaration_tree_of c.in-Ok.raw) e ∙ ap Ok (sym c.in_ok-owned-in-Ok.ensures)

pub returns-clause-answer : goal.returns-clause-answer
returns-clause-answer c =
    let e = rw c.deref.ensures.value at c.in-Err.ensures.gives in
    subst (λ x. x ≢ fault.NoMemory → parsed_declaration c.args.text.now ≡ Err x) (sym (rw c.deref-in-Err.ensures.value at c.fault_of_failure.ensures)) (stop_declaration c.args.text.now c.in_ok-toks.toks.items c.in_ok-toks.ensures.right c.in-Err.stop e)

pub returns-in_err-toks-clause-only : goal.returns-in_err-toks-clause-only
returns-in_err-toks-clause-only c = λ t h. search (early_is_memory c.args.text.now h.0 h.1 _ c.in_err-toks.ensures.right, rules)
