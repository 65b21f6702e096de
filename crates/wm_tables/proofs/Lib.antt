pub mod Passing
pub mod OneMore
pub mod RowOrder
pub mod Digits
pub mod Keys
pub mod Made
pub mod OwnPlaces
pub mod Joining
pub mod Building
pub mod Ends
pub mod Restarts
pub mod RowsOf
pub mod OwnRows
pub mod Parts
pub mod Unrefused
pub mod StepObjects
pub mod StepEntries
pub mod StepRest
pub mod Rebuilt
pub mod RangedJobs
pub mod RangedRestarts
pub mod RangedLaunches
pub mod PrestartRestarts
pub mod RangedSupplies
pub mod RangedCalls
pub mod RangedSteps
pub mod CommandsFit
pub mod SameRows
pub mod Found
pub mod NewRows
mod Held
mod Ordered
pub mod Starting
mod Trees
mod SameRow
mod OneState
mod Chains
pub mod After
pub mod Differs
pub mod OneDifference
pub mod OneMoreRow
pub mod Descriptions
pub mod Left
pub mod MadeRows
pub mod Commands
pub mod JobRows
pub mod CounterRows
pub mod Steps
pub mod NotedPairs
pub mod Standings
pub mod TouchedRows
pub mod Leaving
pub mod Taking
