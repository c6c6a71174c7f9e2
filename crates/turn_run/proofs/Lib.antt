pub mod StationCaptures
pub mod Crossings
pub mod PartsOneByOne
pub mod ParcelsOnTheirWay
pub mod ExchangedParcels
pub mod SilentNetwork
