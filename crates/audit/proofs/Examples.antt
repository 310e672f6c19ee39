-- The table of document 01's marked examples, the story of a list and its copy, and small files of imports, by computation.
use mathlib.Core.Path.{refl}
use lib.Ieee.{size}
use Rattle.descriptor.specs.Kinds.{kind_of, integer_kind, undefined_kind, unsigned_kind, is_scalar, array_kind}
use Rattle.operator.specs.Table.{operator_of}
use Rattle.operator.specs.Lent.{table_test, operator_under, named}
use Rattle.scalar.specs.Value.{units}
use Rattle.scalar.specs.Operators.{negative, test_number, plus, sum, minus, difference, ratio_of, quotient, less}
use Rattle.scalar.specs.Order.{side, is_below}
use Rattle.scalar.specs.Reading.{whole_units, whole_of}
use Rattle.procedure.specs.Bytes.{word_at}
use Rattle.procedure.specs.Headers.{header_at, code_of}
use Rattle.procedure.specs.Directory.{has_function, function_of}
use Rattle.procedure.specs.Refusal.{segment_length_test, entries_test, header_test, function_passes, functions_pass as functions_test, contents_test, procedure_refusal}
use Rattle.instruction.specs.Families.{family_in, family_of}
use Rattle.instruction.specs.Reading.{fetch_byte, fetch_half, fetch_word}
use Rattle.instruction.specs.Tables.{etc_of, memory_of}
use Rattle.instruction.specs.Decoding.{short_constant_at, constant_scalar_at, etc_at, family_at, instruction_at, load_at, memory_at}
use Rattle.instruction.specs.Variables.{address_in, address_at}
use Rattle.segment.specs.State.{set_ltop, set_rover, set_trap}
use Rattle.segment.specs.Stack.{set_pctr}
use Rattle.segment.specs.Blocks.{shape_at, elements_at}
use Rattle.segment.specs.Parts.{shape_part, elements_part, within}
use Rattle.storage.specs.Heap.{hit}
use Rattle.storage.specs.Ring.{set_next, set_last, clear_prev_free, unlink}
use Rattle.storage.specs.Request as request
use Rattle.storage.specs.Arrays as arrays
use Rattle.segment.specs.View as view
use Rattle.acceptance_storage.specs.Tests as tests
use Rattle.acceptance_storage.specs.Head.{head_test}
use Rattle.acceptance_storage.specs.Blocks.{free_span, block_span, walk_from, walk_test, starts_from, free_starts, array_starts, blocks_test, array_span, array_test}
use Rattle.acceptance_storage.specs.Ring.{linked, round_from, ring_test}
use Rattle.acceptance.specs.Frames.{known, arguments, variables, frames_pass, frames_test}
use Rattle.acceptance.specs.Cells.{direct, free_cell, frame_cells, cells_from, cells_test}
use Rattle.acceptance.specs.Counts.{counts_test, count_test}
use Rattle.acceptance.specs.Refusal.{data_refusal, refusal}
use Rattle.manual.specs.Values as values
use Rattle.manual.specs.Loads as loads
use Rattle.manual.specs.Scalars as scalars
use Rattle.manual.specs.Memory as memory
use Rattle.manual.specs.Instructions.{plan_of, plan_at}
use Rattle.effects.specs.Perform.{finish, replace, discard, store_at, store, unshare, write_element, store_element}
use Rattle.effects.specs.Seen.{read, seen, whole}
use Rattle.effects.specs.Step.{step_in, step_of}
use Rattle.effects.specs.Run.{steps_from, run_of}
use Rattle.fresh_segment.specs.LayOut.{function_test, parts_test, lay_out_refusal, fresh_storage, fresh_frame, fresh_head, fresh, laid_out}
use Rattle.storage_sheet.specs.Sheet.{sheet_of}
use Rattle.operations.specs.Sheet.{sheeted}
use Rattle.operations.specs.Run.{run_refusal, ran}
use Rattle.operations.specs.Load.{is_global, is_value, lacks_room, load_refusal, loaded}
use Rattle.operations.specs.Look.{looked}
use Rattle.operations.specs.Replay.{tallied, replay_from, replayed}
use Rattle.imports.specs.Numbers.{groups_at, number_at, several_at}
use Rattle.imports.specs.Records.{imported_elements, imported_lengths, imported_load, imported_run, record_at, records_up_to, records_from}
use Rattle.tally.specs.Counts.{count_up, counted}
use Rattle.effects.specs.Tally.{first_byte, tallied_from}
use Rattle.audit.specs.Table.{Table}
use Rattle.audit.specs.Story.{Story}
use Rattle.audit.specs.Imported.{Imported}
use Rattle.audit.specs.Numbered.{Numbered}

computed : Table × Story × Imported × Numbered
unfolding laid_out lay_out_refusal function_test parts_test fresh fresh_head fresh_storage fresh_frame has_function header_at word_at
    procedure_refusal segment_length_test contents_test entries_test functions_test function_passes header_test refusal data_refusal
    head_test blocks_test free_span block_span walk_from walk_test starts_from free_starts array_starts linked round_from ring_test known
    arguments variables frames_pass frames_test direct free_cell frame_cells cells_from cells_test counts_test tests.words_where view.words
    view.frames_from hit is_scalar kind_of integer_kind undefined_kind unsigned_kind ran run_of steps_from step_of step_in function_of
    plan_at plan_of loads.short_constant loads.constant_scalar scalars.index_generator scalars.dyadic values.dyadic values.conform
    values.pairwise values.index_generator values.up_from units whole_units whole_of code_of family_in family_of fetch_byte fetch_half
    fetch_word etc_of short_constant_at constant_scalar_at etc_at family_at instruction_at set_ltop set_rover set_trap
    set_pctr set_next set_last clear_prev_free unlink request.find_from request.find request.split request.given_whole request.give
    request.given request.request_at request.request arrays.fill arrays.place_at arrays.place arrays.drop_word finish replace read seen
    operator_of plus sum ratio_of quotient size shape_at elements_at shape_part elements_part array_span array_test memory_of address_in
    address_at load_at memory_at discard store_at store unshare write_element store_element whole is_global is_value lacks_room load_refusal
    loaded looked arrays.share arrays.raise arrays.lower memory.assign_no_result memory.assign_indexed memory.eat loads.load
    values.ravel_place array_kind count_test within tallied replay_from replayed groups_at number_at several_at imported_elements
    imported_lengths imported_load imported_run record_at records_up_to records_from count_up counted first_byte tallied_from sheeted sheet_of
    table_test operator_under named run_refusal scalars.monadic values.each values.monadic negative test_number minus difference
    side is_below less
computed = (
  record {
    m1 = record { word0 = refl; word1 = refl; word12 = refl; word13 = refl; word33 = refl; word34 = refl };
    m1_sheet = refl;
    m1_spoilt = refl;
    m2 = record { on_top = record { done = refl; top = refl }; free = refl; array = refl; rover_at = refl };
    m2_sheet = refl;
    m3 = record { on_top = record { done = refl; top = refl }; free = refl; array = refl; rover_at = refl };
    m4 = record { on_top = record { done = refl; top = refl }; free = refl; array = refl; rover_at = refl };
    m4_sheet = refl;
    m5 = record { on_top = record { done = refl; top = refl }; value = refl };
    m6 = record { done = refl; top = refl };
    m7 = record { trapped = refl; trap = refl };
    m8 = record { on_top = record { done = refl; top = refl }; value = refl };
    m9 = record { on_top = record { done = refl; top = refl }; value = refl };
    m10 = (record { done = refl; top = refl }, record { done = refl; top = refl }, record { done = refl; top = refl });
  },
  record {
    copies = refl;
    list = record { seen = refl; shape = refl; ravel = refl };
    copy = record { seen = refl; shape = refl; ravel = refl };
    count = refl;
    sheet_shared = refl;
    writes = refl;
    list_after = record { seen = refl; shape = refl; ravel = refl };
    copy_after = record { seen = refl; shape = refl; ravel = refl };
    sheet_after = refl;
  },
  record {
    none = (refl, refl);
    stands = refl;
    loads = refl;
    counts = refl;
    trap = refl;
    trap_counts = refl;
    refusal = refl;
    limit = refl;
  },
  record {
    same = refl;
    value = record { done = refl; top = refl };
    other = record { done = refl; top = refl };
    short = refl;
    long = refl;
    large = refl;
    repeated = refl;
    after = refl;
    before = refl;
    otherwise = refl;
  },
)

pub table : Table
table = computed.0

pub story : Story
story = computed.1

pub imported : Imported
imported = computed.2

pub numbered : Numbered
numbered = computed.3
