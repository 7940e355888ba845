use Rattle.std.proofs.lemmas.Str.{IsUtf8-from_ascii}
use Rattle.std.proofs.lemmas.List.Sums.{AllPass-from_list_all}
use Rattle.entity_id.specs.Identifiers.{is_plain}
use Rattle.entity_id.proofs.Identifying.{IsAscii-plain, IsOk_since}
use Rattle.entity_id.proofs.identifier.parse.Goals as goal

pub unwrap-text-requires : goal.unwrap-text-requires
unwrap-text-requires c =
    IsOk_since _ _ _ c.from_utf8.ensures.cases (IsUtf8-from_ascii _ (IsAscii-plain _ (AllPass-from_list_all is_plain _ c.requires)))
