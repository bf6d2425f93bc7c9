use Rattle.std.proofs.Common.{◌≡◌, ◌∙◌, ◌++◌, ◌∷◌, [], ap, List, None, map, subst, sym, string_bytes}
use Rattle.std.proofs.lemmas.List.{map_push}
use Rattle.desk_io.specs.Files.{Files, HasDistinctNames, file_at}
use Rattle.desk_io.proofs.FilesLemmas.{written_anew}
use Rattle.file_writes.specs.Writes.{bytes_of, file_of}
use Rattle.file_writes.specs.declared.writes.Write.{Write}
use Rattle.file_writes.proofs.writes.Writes.add.Goals as goal

pub invariant_of-self-2 : goal.invariant_of-self-2
invariant_of-self-2 c =
    let write : Write = record { name = c.in_ok-name.name; content = c.args.content } in
    let files : Files = map file_of c.self.inside.list.items in
    let fresh : file_at files (string_bytes write.name) ≡ None = rw (c.in_ok-name.ensures.ok, c.self.view_is) c.requires in
    let pushed : map file_of c.push.new.self.items ≡ files ++ file_of write ∷ [] = ap (map file_of) c.in_ok-push.ensures.items ∙ map_push file_of c.self.inside.list.items write in
    subst HasDistinctNames (sym pushed) (written_anew files (string_bytes write.name) (bytes_of write.content) c.self.invariant fresh).distinct
