-- Why what the translator writes is the translation of the module's tree.
pub mod PassSteps
pub mod OperandTables
pub mod MergedTables
pub mod JoinedTables
pub mod WrittenLists
pub mod WrittenParts
pub mod WrittenTrees
pub mod StartTable
pub mod DriveTables
pub mod ModulePassed
pub mod OneResult
pub mod CallsGive
pub mod Demand3
