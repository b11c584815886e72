-- Objects and records by their numbers, where records are added one by one.
pub use Rattle.claim_blocks.proofs.ObjectLists.{modules_push, maps_push, modules_count, maps_count, map_block_same, same_modules, same_maps, get-left, get-past, claim_earlier, each_push, record_behind, modules_append, maps_append}
